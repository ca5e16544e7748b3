pub mod Turned
pub mod Combining
pub mod Searching
pub mod Words
