pub mod PriceLemmas
pub mod NextBreakLemmas
pub mod CostLemmas
pub mod TotalLemmas
pub mod LowFromLemmas
