mod CopyLemmas
mod EntryLemmas
mod GoodBookLemmas
mod LegPlaceLemmas
mod PresenceLemmas
