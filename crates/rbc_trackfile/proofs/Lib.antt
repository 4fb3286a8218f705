pub mod FileLemmas
pub mod ItemLemmas
pub mod MemberLemmas
pub mod TextLemmas
pub mod WalkLemmas
