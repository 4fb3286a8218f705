pub mod Added
pub mod Changes
pub mod NextTables
pub mod Room
