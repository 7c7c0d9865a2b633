pub mod Lent
pub mod FailDemand1
pub mod FailDemand2
pub mod FailDemand3
