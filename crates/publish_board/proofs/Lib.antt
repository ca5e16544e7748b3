pub mod Knowing
pub mod Events
pub mod Beginnings
pub mod Adding
