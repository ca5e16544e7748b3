pub mod Conditions
pub mod Flagged
pub mod Images
