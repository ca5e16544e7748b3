pub mod Searching
pub mod Words
pub mod Pairs
