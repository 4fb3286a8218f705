pub mod RowReadLemmas
pub mod SceneReadLemmas
pub mod TrainReadLemmas
pub mod NextRowLemmas
pub mod ReadBackLemmas
pub mod TellableLemmas
