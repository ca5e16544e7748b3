pub mod Fewest
pub mod Grouped
pub mod Splits
pub mod Apart
pub mod Searched
