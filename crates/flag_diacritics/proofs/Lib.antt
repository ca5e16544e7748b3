pub mod Passing
pub mod Rows
pub mod Idling
pub mod Finding
pub mod Searching
pub mod Resolved
