pub mod BeginningLemmas
pub mod AddingLemmas
