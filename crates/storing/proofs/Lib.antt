pub mod Cuts
pub mod Puts
pub mod Chain
pub mod Stored
