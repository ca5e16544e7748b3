pub mod Numbered
pub mod Saved
pub mod Lawful
pub mod Replied
