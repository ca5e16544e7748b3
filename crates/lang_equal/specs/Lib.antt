pub mod Difference
pub mod Comparison
pub mod Search
pub mod Pairs
