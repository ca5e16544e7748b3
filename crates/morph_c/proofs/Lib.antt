pub mod Values
pub mod Slots
pub mod Telling
pub mod Becoming
pub mod Crossing
