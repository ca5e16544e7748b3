pub mod Heads
pub mod Projects
pub mod Batches
