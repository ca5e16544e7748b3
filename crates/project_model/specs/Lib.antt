pub mod Answers
pub mod Files
pub mod Gathered
pub mod Known
pub mod Numbered
pub mod Plans
pub mod Sound
pub mod Stands
