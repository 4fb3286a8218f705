mod SectionSetLemmas
pub mod AlongLemmas
pub mod ChangeLemmas
pub mod LegLemmas
pub mod SpellingLemmas
pub mod TellingLemmas
