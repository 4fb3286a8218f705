pub mod BackwardLemmas
pub mod StandingLemmas
