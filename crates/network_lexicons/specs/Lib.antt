pub mod Plain
pub mod Built
pub mod Sides
pub mod Entries
