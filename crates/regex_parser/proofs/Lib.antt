pub mod Numbers
pub mod Loops
pub mod Fronts
pub mod Terms
pub mod Rules
pub mod Levels
pub mod Complete
