pub mod Left
pub mod CapabilityWords
pub mod Requested
