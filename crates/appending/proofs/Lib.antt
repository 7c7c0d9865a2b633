pub mod Room
pub mod Adding
pub mod Between
pub mod First
pub mod Added
