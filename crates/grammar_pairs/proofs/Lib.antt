pub mod Fits
pub mod Forms
pub mod Found
pub mod Growing
pub mod Replaced
pub mod Sets
pub mod Spelled
