mod Sent
pub mod Runs
pub mod Serving
