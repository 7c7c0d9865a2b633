pub mod Holder
pub mod Chosen
pub mod Permission
