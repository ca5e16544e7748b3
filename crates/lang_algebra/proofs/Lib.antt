pub mod Alive
pub mod OneLetter
pub mod Inserting
pub mod Made
pub mod Small
pub mod Counted
