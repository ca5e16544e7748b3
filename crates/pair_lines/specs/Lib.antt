pub mod Strings
pub mod Reading
pub mod Replies
pub mod Numbers
pub mod Ready
pub mod Opening
pub mod Laws
