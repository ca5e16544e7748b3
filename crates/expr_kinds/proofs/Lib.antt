pub mod Sets
mod Inserts
pub mod Passes
pub mod KindLaws
pub mod FitLaws
pub mod WeightLaws
pub mod BuiltLaws
pub mod LeafLaws
