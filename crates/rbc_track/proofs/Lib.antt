mod FindingLemmas
mod JudgingLemmas
mod KeepingLemmas
mod LastingLemmas
mod MakingLemmas
pub mod KeyLemmas
pub mod LinkKeyLemmas
pub mod RouteLemmas
pub mod WrittenLemmas
