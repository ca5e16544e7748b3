pub mod Alphabet
pub mod Leaves
pub mod Mapped
