pub mod ByLimbs
pub mod Bytes
