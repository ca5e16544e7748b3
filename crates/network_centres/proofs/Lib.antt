mod Nested
mod Ready
pub mod Filled
pub mod Mapped
pub mod Seen
pub mod Within
mod EmptyCentres
mod Insertions
