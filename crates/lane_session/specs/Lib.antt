pub mod Sending
pub mod Running
pub mod Lanes
