pub mod Escapes
pub mod Given
pub mod Pages
pub mod Judged
