pub mod Sided
pub mod Placed
pub mod Formed
pub mod Gathered
pub mod Walked
pub mod Related
pub mod Resolutions
