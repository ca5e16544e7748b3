pub mod Boards
pub mod Rule
pub use Rattle.publish_board.specs.Histories
pub use Rattle.publish_board.specs.Published
pub mod Histories
pub mod HistoryRule
pub mod Published
