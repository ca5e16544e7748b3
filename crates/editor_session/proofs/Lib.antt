mod Long
mod Hearing
mod Shortness
mod Requests
mod Replies
mod Publishing
mod Runs
mod Crossing
pub mod Living
pub mod Sitting
pub mod Worst
