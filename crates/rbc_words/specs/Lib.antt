pub mod LineWords
pub mod PriceText
pub mod Replies
pub mod SessionLines
pub mod StepsLines
pub mod Values
