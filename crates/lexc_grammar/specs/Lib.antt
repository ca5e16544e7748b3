pub mod Limits
pub mod Lexicons
pub mod Entries
pub mod Files
pub mod Laws
