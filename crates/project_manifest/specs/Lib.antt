pub mod Rows
pub mod Manifests
pub mod Lines
pub mod Sayings
pub mod Reading
