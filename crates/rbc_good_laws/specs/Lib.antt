pub mod Tests
pub mod Told
pub mod Good
pub mod Laws
