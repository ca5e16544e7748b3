pub mod Keys
pub mod One
pub mod Pieces
pub mod Rows
