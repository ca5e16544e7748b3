pub mod Placed
pub mod Sets
pub mod Partial
pub mod Classes
