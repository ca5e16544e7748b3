pub mod Known
mod Pieces
mod Gathering
pub mod Cuts
pub mod Streams
pub mod Taking
