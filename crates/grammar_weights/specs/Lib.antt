pub mod Weights
pub mod Counting
pub mod Weighed
pub mod Laws
