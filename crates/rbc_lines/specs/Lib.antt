pub mod Faults
pub mod Nexts
pub mod Pieces
pub mod TrackLaws
pub mod TrackText
pub use Rattle.rbc_scene.specs.ScenesOnTracks
