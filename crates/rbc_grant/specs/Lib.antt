pub mod Candidates
pub mod Reductions
pub use Rattle.rbc_reach.specs.Entries
pub use Rattle.rbc_reach.specs.Forms
pub use Rattle.rbc_reach.specs.SameViews
pub use Rattle.rbc_reach.specs.ScenesOnTracks
pub use Rattle.rbc_reach.specs.Steps
pub use Rattle.rbc_reach.specs.TrainsOnTracks
