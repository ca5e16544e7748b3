pub mod Letters
pub mod Shared
pub mod Fronts
pub mod Forms
pub mod Kept
