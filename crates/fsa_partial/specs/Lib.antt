pub mod Minimal
pub mod Groups
pub mod Splitting
pub mod Search
