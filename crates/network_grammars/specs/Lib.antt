pub mod Rules
pub mod Meaning
pub mod PairMeaning
pub mod Built
pub mod Rows
