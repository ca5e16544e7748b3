pub mod Atoms
pub mod Fronts
pub mod Operators
pub mod Texts
pub mod Whole
pub mod Colons
pub mod Flags
