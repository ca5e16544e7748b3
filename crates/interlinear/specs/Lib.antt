pub mod Blocks
pub mod Glosses
pub mod OneBlock
pub mod Replies
pub mod Tables
pub mod Words
