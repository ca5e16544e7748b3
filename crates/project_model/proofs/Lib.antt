mod NameSteps
pub mod Gathering
pub mod Alphabets
pub mod Leaves
mod Adding
mod Known
mod Views
mod Sound
mod Requiring
mod Formed
mod Projecting
pub mod Reading
mod Plain
mod FileSteps
mod Glossing
