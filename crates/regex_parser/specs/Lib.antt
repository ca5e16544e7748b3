pub mod Values
pub mod Levels
