pub mod Blanks
pub mod Letters
pub mod Insides
pub mod Fronts
