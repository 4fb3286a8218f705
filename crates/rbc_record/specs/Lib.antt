pub mod Entries
pub mod SameEntries
pub mod Records
pub mod Entering
pub mod Headline
pub mod Laws
pub mod Present
pub use Rattle.rbc_grant.specs.Candidates
pub use Rattle.rbc_grant.specs.Entries as BookEntries
pub use Rattle.rbc_grant.specs.Forms
pub use Rattle.rbc_grant.specs.SameViews
pub use Rattle.rbc_grant.specs.ScenesOnTracks
pub use Rattle.rbc_grant.specs.Steps
pub use Rattle.rbc_grant.specs.TrainsOnTracks
