-- What is seen of a history that grows.
use Rattle.std.specs.Prelude.{List, [], ◌∷◌}
use Rattle.logbook.specs.Pages.{Book}
use Rattle.rbc_record.specs.Records.{HistoryOnTrack, IsRight}
use Rattle.rbc_snap.specs.Later.{IsLater, nothing_entered}

-- the last of these moments
abbrev pub last_of : HistoryOnTrack → List HistoryOnTrack → HistoryOnTrack
last_of first [] = first
last_of first (next ∷ more) = last_of next more

abbrev pub latest : List HistoryOnTrack → HistoryOnTrack
latest moments = last_of nothing_entered moments

-- each moment goes on from the one before
abbrev pub GoOnFrom : HistoryOnTrack → List HistoryOnTrack → Type 0
GoOnFrom first [] = Unit {0}
GoOnFrom first (next ∷ more) = IsLater first next × GoOnFrom next more

-- these are moments of one right history, each later than the one before
abbrev pub AreMoments : List HistoryOnTrack → Type 0
AreMoments [] = ⊥
AreMoments (first ∷ more) = IsRight first × GoOnFrom first more

-- which history it is, and what was seen of it
pub record SeenOf : Type 0 where
  pub book : Book
  pub history : HistoryOnTrack

abbrev pub seen_of : Book → HistoryOnTrack → SeenOf
seen_of book history = record { book = book; history = history }
