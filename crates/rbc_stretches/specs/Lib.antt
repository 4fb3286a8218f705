pub mod OnTracks
