pub mod GrantingLemmas
mod KeepingLemmas
