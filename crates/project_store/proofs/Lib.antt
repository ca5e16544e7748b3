mod Resolved
pub mod Bodies
mod Grammars
pub mod Lawful
pub mod Named
pub mod Networks
pub mod Ordered
pub mod Parts
pub mod Shown
pub mod Spelled
pub mod Trying
mod Glossed
mod KindsOfNames
