pub mod Graph
pub mod Orders
pub mod Visits
pub mod Found
