pub mod CrewLemmas
mod JobLemmas
mod OrderLemmas
mod Permutations
mod SweepLemmas
pub mod WorkLemmas
pub use Rattle.rbc_desk.proofs.AskingLemmas
