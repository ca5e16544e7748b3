pub mod Language
pub mod Placing
pub mod Settling
pub mod Spreading
pub mod Partly
pub mod Lettered
pub mod Classing
