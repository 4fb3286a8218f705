pub mod Authorities
pub mod Fields
pub mod Frames
pub mod Layouts
pub mod PacketLayouts
pub mod Reads
pub mod Spellings
