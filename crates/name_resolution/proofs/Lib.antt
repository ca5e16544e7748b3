pub mod Texts
pub mod GrammarLeaves
pub mod Listed
pub mod Mapped
pub mod Rows
pub mod ResolvedLexicons
mod Bytes
mod Numbering
mod TableSymbols
mod FormListing
mod GrammarNumbering
mod Parts
mod GrammarSymbols
