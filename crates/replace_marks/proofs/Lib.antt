mod Distinct
mod Listing
pub mod Writing
