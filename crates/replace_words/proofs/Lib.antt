mod Splits
mod Encode
mod Reading
mod Bridge
pub mod Claimed
pub mod Inserted
pub mod Alike
