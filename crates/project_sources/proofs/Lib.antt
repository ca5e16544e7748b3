pub mod Once
pub mod Glossing
pub mod Sound
pub mod Editing
pub mod SameFiles
pub mod Spelled
pub mod Expressions
pub mod Lexicons
pub mod Atoms
pub mod Grammars
pub mod Bodies
mod Filed
