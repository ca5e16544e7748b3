pub mod Firsts
pub mod Worded
pub mod Utf8
pub mod Saying
pub mod Refusing
pub mod Growing
pub mod Looking
