pub mod Lines
pub mod Paths
pub mod Sides
pub mod Faults
pub mod Views
pub mod Writing
pub mod Drawing
pub mod Written
