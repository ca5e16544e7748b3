pub mod Loaded
pub mod Projects
pub mod Building
pub mod Sharing
pub mod Centres
pub mod Networks
