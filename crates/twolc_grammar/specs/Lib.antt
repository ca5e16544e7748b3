pub mod Atoms
pub mod Expressions
pub mod Statements
pub mod Sections
pub mod Forms
