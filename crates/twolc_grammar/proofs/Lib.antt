mod Examples
pub mod Once
mod WholeText
pub mod Formed
