pub mod LegLemmas
pub mod StretchLemmas
pub mod StopOnLegLemmas
pub mod WayLemmas
pub mod EndLemmas
mod BehindLemmas
