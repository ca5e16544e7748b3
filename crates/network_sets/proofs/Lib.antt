pub mod Inside
pub mod Splits
pub mod Conditions
pub mod Compositions
pub mod Restrictions
pub mod Alike
pub mod Suffixed
pub mod Repeats
pub mod PrefixRows
mod Backslashes
