pub mod Feeding
