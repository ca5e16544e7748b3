pub mod Counts
pub mod Errors
pub mod Reports
pub mod Told
pub mod Words
pub mod Generated
