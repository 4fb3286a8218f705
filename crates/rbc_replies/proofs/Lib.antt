pub mod GrantTextLemmas
pub use Rattle.rbc_words.proofs.PrintingLemmas
