pub mod Languages
pub mod Live
