pub mod BringingLemmas
pub mod ConnectionLemmas
pub mod OutcomeLemmas
pub mod ServingLemmas
