pub mod Along
pub mod OnTracks
pub mod SectionSets
