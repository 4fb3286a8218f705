pub mod Spans
pub mod Nearest
pub mod Laws
