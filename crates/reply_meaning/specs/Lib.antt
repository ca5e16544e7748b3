pub mod Replies
pub mod OneReply
pub mod Transcripts
pub mod OneTranscript
