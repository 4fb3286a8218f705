pub mod CoveredLemmas
pub mod CandidateLemmas
