pub mod Responses
pub mod Fields
pub mod Texts
pub mod Lines
pub mod Languages
pub mod Comparisons
pub mod Named
