pub mod Choices
pub mod Ends
pub mod Rounds
pub mod Prints
