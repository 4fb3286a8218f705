pub mod Answered
pub mod Blocks
pub mod Lines
pub mod Replies
pub mod Rows
pub mod Tables
pub mod Verdicts
pub use Rattle.rbc_session_laws.specs.CheckAnswers
