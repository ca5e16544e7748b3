pub mod Relations
pub mod Substituted
pub mod Relation
