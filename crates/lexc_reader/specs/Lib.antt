pub mod Answers
pub mod Sound
pub mod EntryAnswers
pub mod Words
pub mod Gathering
