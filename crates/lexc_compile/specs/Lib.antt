pub mod Marks
pub mod Paths
pub mod Blocks
pub mod Words
pub mod Built
pub mod Growing
