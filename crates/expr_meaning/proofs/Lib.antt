pub mod Inner
pub mod Itself
pub mod Languages
pub mod Operators
pub mod Rules
mod Turned
pub mod Directed
