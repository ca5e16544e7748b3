pub mod Bodies
pub mod Demands
pub mod Entries
pub mod Forms
pub mod Passing
pub mod Plain
pub mod Referring
