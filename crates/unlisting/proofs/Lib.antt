pub mod Moving
pub mod Unlisting
