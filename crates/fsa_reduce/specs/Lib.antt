pub mod Numbering
pub mod Classes
pub mod Merging
pub mod Orders
pub mod Gains
pub mod Trimmed
