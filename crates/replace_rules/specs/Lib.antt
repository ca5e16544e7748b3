pub mod Rules
pub mod Places
pub mod Letters
pub mod Alike
