pub mod Source
pub mod Computing
pub mod Lists
pub mod Bytes
pub mod Examples
