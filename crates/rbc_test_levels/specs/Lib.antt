pub mod PowerLevels
pub mod PowerLaws
