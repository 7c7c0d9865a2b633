pub mod OneValue
pub mod Counting
pub mod AnyOrder
