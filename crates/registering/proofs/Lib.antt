pub mod Room
pub mod RegisterRow
