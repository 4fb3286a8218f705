pub mod Columns
pub mod Costs
pub mod Metres
pub mod Places
pub mod Totals
