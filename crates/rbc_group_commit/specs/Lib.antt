pub mod Told
pub mod Stamps
pub mod Marks
pub mod Pages
pub mod Waiting
