pub mod Limits
pub mod Tests
pub mod Found
pub mod Brackets
pub mod Files
pub mod Reads
pub mod Verdicts
