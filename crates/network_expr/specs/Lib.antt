pub mod Built
pub mod Cascades
pub mod Parts
pub mod Rules
