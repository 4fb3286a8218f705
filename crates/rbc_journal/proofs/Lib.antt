mod LineLemmas
mod MomentLemmas
mod CrashLemmas
pub mod SessionLemmas
mod SealLemmas
mod OpenLemmas
mod ChainLemmas
mod StagingLemmas
mod CommitLemmas
mod CommittedLemmas
mod PutLemmas
mod HeaderLemmas
mod ReadingLemmas
mod ToldLemmas
mod ReadingLawLemmas
mod BeginningLemmas
mod LastingLemmas
mod ChangeLemmas
