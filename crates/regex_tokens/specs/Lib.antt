pub mod Bytes
pub mod Spelling
pub mod Cuts
pub mod Fronts
pub mod Reading
