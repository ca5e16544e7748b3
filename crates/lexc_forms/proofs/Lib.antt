pub mod Encoding
pub mod Positions
pub mod Marks
pub mod Symbols
pub mod Begins
pub mod Pieces
pub mod Sides
pub mod Equal
