pub mod Kinds
pub mod Marked
pub mod Laws
pub mod Comparisons
