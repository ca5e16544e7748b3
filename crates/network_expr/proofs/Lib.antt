pub mod Weights
pub mod Ready
pub mod Rows
pub mod Cascades
pub mod Meant
pub mod LeafWords
pub mod Named
pub mod Searched
pub mod Narrowed
pub mod Ruled
mod Inserting
pub mod RuleMeaning
pub mod RuleRows
