pub mod Flags
pub mod Terms
