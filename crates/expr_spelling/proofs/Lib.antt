pub mod Words
mod Sets
mod Pairs
pub mod Edges
mod Pieces
mod Directions
pub mod Sides
pub mod Carrying
pub mod Spelling
pub mod Leaves
pub mod Alphabets
mod LexiconSides
mod Paths
pub mod LexiconSpelling
mod Resolved
pub mod LexiconAlphabets
