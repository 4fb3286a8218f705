pub mod Forms
pub mod Found
pub mod SameViews
pub use Rattle.rbc_scene.specs.Entries
pub use Rattle.rbc_scene.specs.ScenesOnTracks
pub use Rattle.rbc_scene.specs.Steps
pub use Rattle.rbc_scene.specs.TrainsOnTracks
