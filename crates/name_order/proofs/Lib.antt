pub mod References
pub mod Adding
pub mod Reaching
pub mod Visiting
pub mod Ordering
