pub mod Directed
pub mod Marked
pub mod Turned
pub mod Alike
pub mod Laws
