pub mod HearingLemmas
pub mod HistoryLemmas
pub mod LookoutLemmas
pub mod NumberLemmas
