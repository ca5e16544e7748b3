pub mod Networks
pub mod Renamed
pub mod Words
pub mod Crossing
pub mod Optional
