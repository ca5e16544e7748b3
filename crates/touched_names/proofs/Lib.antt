pub mod Each
pub mod Found
pub mod Grammars
pub mod Kept
pub mod Leafwise
pub mod Marked
pub mod Marking
pub mod Numbers
pub mod Touching
pub mod SamePlaces
mod Sets
mod Alike
mod Lexicons
mod Centres
mod Tests
mod Trees
mod DefinitionTest
pub mod Untouched
pub mod Keeping
