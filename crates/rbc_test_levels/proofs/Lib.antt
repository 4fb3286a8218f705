pub mod LayoutLemmas
pub mod PowerLemmas
