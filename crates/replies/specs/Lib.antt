pub mod Exports
pub mod Parts
