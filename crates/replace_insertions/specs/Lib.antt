pub mod Kinds
pub mod Insertions
pub mod Marked
