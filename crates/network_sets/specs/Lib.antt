pub mod Split
pub mod Suffixes
pub mod Few
