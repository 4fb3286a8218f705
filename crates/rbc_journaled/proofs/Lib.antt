pub mod TellingLemmas
mod BetweenLemmas
pub mod AddingLemmas
mod FollowingLemmas
mod NoteLemmas
mod ReplayingLemmas
mod SayingLemmas
mod KeepingLemmas
mod TalkLemmas
mod GateLemmas
mod EndLemmas
pub mod TreatingLemmas
mod LaterLemmas
mod LineLemmas
mod OpeningLemmas
mod LastingLemmas
