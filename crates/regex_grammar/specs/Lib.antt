pub mod Rows
pub mod Grammar
pub mod Whole
pub mod Reading
