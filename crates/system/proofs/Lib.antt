pub mod OwnRow
pub mod MessageRow
