pub mod Behind
mod LeafLists
mod Sets
mod Replaced
pub mod Rowed
mod MappedSets
