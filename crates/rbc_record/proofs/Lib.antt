pub mod HistoryLemmas
pub mod KeepingLemmas
mod LeadingLemmas
