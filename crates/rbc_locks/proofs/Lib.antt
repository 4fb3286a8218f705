mod NextLemmas
mod NextTableLemmas
mod RoomLemmas
