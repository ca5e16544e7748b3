pub mod Words
pub mod Operations
pub mod Relations
pub mod Answers
