mod Splits
mod Encode
mod Reading
mod Bridge
mod Matches
mod Barred
pub mod Directions
pub mod Turned
pub mod Leaving
pub mod Firsts
pub mod Overlap
