pub mod Tokens
pub mod Steps
