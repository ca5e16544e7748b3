pub mod Chains
pub mod Images
pub mod Fewest
pub mod Kept
pub mod Moving
pub mod Chained
pub mod Apart
