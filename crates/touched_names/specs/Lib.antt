pub mod Bodies
pub mod Itself
pub mod Places
pub mod Touched
pub mod Staying
pub mod Laws
