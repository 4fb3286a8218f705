-- Who looks at a desk from a seat, and enters nothing.
use Rattle.std.specs.Prelude.{◌≡◌, Option, Some, None}
use Rattle.rbc_snap.specs.Later.{IsLater}
use Rattle.rbc_snap.specs.Records.{HistoryOnTrack}
use Rattle.rbc_desk.specs.Seats.{Seated}

-- The seat has its receipts and no more. What it was told goes on from every history that what it had been told goes on from.
pub record HasLooked (old new : Seated) : Type 0 where
  pub receipts : new.receipts ≡ old.receipts
  pub later : (earlier : HistoryOnTrack) → IsLater earlier old.told → IsLater earlier new.told

-- a seat that there may be is still there, and has looked so; where there was none, none is there
abbrev pub LooksOn : Option Seated → Option Seated → Type 0
LooksOn None None = Unit {0}
LooksOn None (Some new) = ⊥
LooksOn (Some old) None = ⊥
LooksOn (Some old) (Some new) = HasLooked old new
