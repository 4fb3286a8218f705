mod BufferLemmas
mod LineFeedLemmas
pub mod LineLemmas
pub mod PieceLemmas
mod UnderWayLemmas
pub mod WritingLemmas
pub mod EmittingLemmas
