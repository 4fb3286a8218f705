pub mod Showing
pub mod ShownPages
pub use Rattle.rbc_journaled.specs.Journaled
pub use Rattle.rbc_journaled.specs.Adds
pub use Rattle.rbc_journaled.specs.Tells
pub use Rattle.rbc_session_laws.specs.Retelling
pub use Rattle.rbc_sessions.specs.Records
