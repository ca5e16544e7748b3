pub mod Tokens
pub mod Forms
pub mod Entries
pub mod Moves
pub mod Once
