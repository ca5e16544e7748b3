pub mod Images
pub mod Folding
pub mod Fewest
pub mod Splitting
pub mod Inverses
