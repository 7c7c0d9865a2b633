pub mod ReadBack
pub mod Inside
pub mod Tied
