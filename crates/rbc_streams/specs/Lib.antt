pub mod Calls
pub mod LineReading
pub mod Emitting
