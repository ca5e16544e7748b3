pub mod Replies
mod Returns
mod Lines
