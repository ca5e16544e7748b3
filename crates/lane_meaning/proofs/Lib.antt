mod AtLast
pub mod Carrying
pub mod Growing
