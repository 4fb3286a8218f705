pub mod TestLemmas
pub mod GoodLemmas
pub mod ToldLemmas
pub mod StayLemmas
pub mod ScenesStayLemmas
