pub mod Slots
pub mod Statuses
pub mod Tells
pub mod Asking
pub mod Filling
