pub mod Replaced
mod Listed
mod Letters
pub mod Lawful
mod Counted
mod Weighing
