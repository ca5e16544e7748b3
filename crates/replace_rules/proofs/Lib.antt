mod Unions
mod BlockWords
mod KeptWords
mod Relations
mod Listing
mod Tables
pub mod Sets
mod Paired
pub mod Told
pub mod ByFirsts
mod MarkRows
