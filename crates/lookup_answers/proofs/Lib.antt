pub mod AnswerKinds
pub mod OneList
