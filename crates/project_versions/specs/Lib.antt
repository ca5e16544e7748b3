pub mod Networks
pub mod Keeping
pub mod Versions
pub mod Errors
pub mod Rebuilt
pub mod Looks
pub mod Laws
