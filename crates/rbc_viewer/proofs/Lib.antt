pub mod EscapeLemmas
mod JudgedLemmas
mod DrawingLemmas
pub mod GivenLemmas
