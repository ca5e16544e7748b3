pub mod Faults
pub mod Networks
pub mod OneReply
pub mod Refusals
pub mod Replies
