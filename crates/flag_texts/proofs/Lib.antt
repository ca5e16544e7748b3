pub mod Splits
pub mod Shapes
