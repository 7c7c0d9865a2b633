pub mod Compares
pub mod LastLimb
pub mod OneHolds
