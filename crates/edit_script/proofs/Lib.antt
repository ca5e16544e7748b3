mod Splits
mod Numbers
mod Parts
pub mod Unique
mod Lines
mod Keywords
