pub mod LaterLemmas
mod MomentLemmas
mod StepLemmas
