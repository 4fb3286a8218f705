pub mod RowLemmas
pub mod GreatestTableLemmas
pub mod ReadBackLemmas
pub mod ProfileLemmas
mod TileLemmas
