pub mod Reading
pub mod StatementReading
pub mod RuleReading
