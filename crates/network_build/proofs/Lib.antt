pub mod Bodies
pub mod Built
mod Free
mod Gathering
pub mod Grammars
mod Held
mod Lists
mod Once
mod Ones
mod Sounds
mod Uses
