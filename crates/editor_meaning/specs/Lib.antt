pub mod Orders
pub mod Batches
pub mod Editing
pub mod Laws
pub mod OneTranscript
