pub mod Shapes
pub mod Bypass
