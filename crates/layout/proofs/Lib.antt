pub mod KeyWritten
pub mod Digits
