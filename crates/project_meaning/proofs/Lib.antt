pub mod Places
pub mod Alike
pub mod Depths
pub mod Forms
pub mod Closed
pub mod Touching
pub mod Example
pub mod Positive
