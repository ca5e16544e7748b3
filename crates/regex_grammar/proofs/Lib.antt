pub mod Cases
pub mod Exact
pub mod Loops
pub mod Operators
pub mod Levels1to4
pub mod Levels5to8
pub mod Level9
pub mod Level10
pub mod Whole
mod Examples
