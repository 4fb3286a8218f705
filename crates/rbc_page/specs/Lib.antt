pub mod Answers
pub mod Exchanges
pub mod Heads
pub mod Hearing
pub mod Histories
pub mod Metrics
pub mod Moments
