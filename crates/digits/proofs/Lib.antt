pub mod Values
pub mod Messages
pub mod Turns
