pub mod Automaton
pub mod Language
pub mod Complete
pub mod Arcs
