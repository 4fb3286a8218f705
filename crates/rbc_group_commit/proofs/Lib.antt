mod MarkLemmas
pub mod FileLemmas
mod PageLemmas
