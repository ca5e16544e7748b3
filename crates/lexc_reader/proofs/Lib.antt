pub mod Newlines
pub mod Steps
pub mod Features
pub mod Closings
pub mod Reading
pub mod Sound
pub mod Saying
pub mod Gathered
