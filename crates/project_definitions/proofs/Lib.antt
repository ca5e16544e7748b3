pub mod Numbers
pub mod Steps
pub mod Built
pub mod Formed
pub mod Bodies
pub mod Replaced
pub mod Mapped
pub mod Expressions
mod Weighing
mod Weighed
mod Passing
mod Telling
mod Told
pub mod Referring
pub mod Compiled
pub mod Demanded
pub mod Forming
