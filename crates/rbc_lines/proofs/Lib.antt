pub mod OfTrackLemmas
pub mod TrackTextLemmas
pub mod TrackLawLemmas
mod PieceLemmas
mod LineTextLemmas
pub mod StopOfTrackLemmas
mod LeftLemmas
