pub mod AskingLemmas
pub mod ClosingLemmas
mod StateLemmas
pub mod TrainLemmas
