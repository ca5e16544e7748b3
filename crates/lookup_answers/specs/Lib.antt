pub mod Answers
pub mod OneKind
