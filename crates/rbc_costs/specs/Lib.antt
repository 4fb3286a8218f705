pub mod Prices
pub mod Stretches
pub mod Sums
