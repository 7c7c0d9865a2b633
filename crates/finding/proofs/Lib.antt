pub mod Places
pub mod Finding
pub mod Near
pub mod Chunks
