pub mod AllTypes
pub mod Own
