pub mod Unlisting
