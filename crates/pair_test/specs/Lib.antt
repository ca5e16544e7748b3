pub mod Splits
pub mod Verdicts
pub mod Rules
pub mod Marks
pub mod Tests
pub mod Ready
