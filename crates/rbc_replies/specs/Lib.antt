pub mod Certificates
pub mod Replies
pub use Rattle.rbc_words.specs.PriceText
pub use Rattle.rbc_words.specs.SessionLines
