pub mod SubstitutedWords
pub mod Relabelled
pub mod Sides
pub mod Languages
pub mod Used
