pub mod Made
pub mod Nodes
pub mod Numbers
pub mod Tokens
pub mod Whole
pub mod KnownTexts
