pub mod Types
pub mod Here
pub mod Read
pub mod Steps
pub mod Walked
