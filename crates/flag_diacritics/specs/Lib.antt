pub mod Tapes
pub mod Numbers
pub mod Search
pub mod Idle
pub mod Marks
pub mod Changes
