pub mod Copies
pub mod Searching
pub mod Place
