pub mod Formed
pub mod Paths
pub mod Arcs
