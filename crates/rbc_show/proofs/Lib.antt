mod EndLemmas
mod WritingLemmas
mod FollowingLemmas
mod TellingLemmas
mod PageLemmas
