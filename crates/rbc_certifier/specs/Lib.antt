pub mod Answered
pub mod Chosen
