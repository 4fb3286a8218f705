-- How a book keeps its trains: each under its number.
use Rattle.std.specs.Prelude.{◌≡◌, ℕ, List, map}
use Rattle.rbc_model.specs.Tracks.{Track}
use Rattle.rbc_model.specs.Trains.{Train}
use Rattle.rbc_extent.specs.TrainsOnTracks.{TrainOnTrack}
use Rattle.rbc_book.specs.Books.{Book, IsGoodBook}

-- the train, on its track
abbrev pub on_track : Track → Train → TrainOnTrack
on_track track train = record { track = track; train = train }

-- its entry
abbrev pub entry_of : Track → Train → ℕ × TrainOnTrack
entry_of track train = (train.report.train, on_track track train)

-- the number of a train on its track
abbrev pub number_on : TrainOnTrack → ℕ
number_on train = train.train.report.train

-- the trains of the entries
abbrev pub trains_of : List (ℕ × TrainOnTrack) → List Train
trains_of entries = map (λ e. e.1.train) entries

-- the book of these entries
abbrev pub book_of : Track → List (ℕ × TrainOnTrack) → Book
book_of track entries = record { track = track; trains = trains_of entries }

-- each train is on this track, under its number, and the book is a good one
pub record AreEntries (track : Track) (entries : List (ℕ × TrainOnTrack)) : Type 0 where
  pub keyed : entries ≡ map (entry_of track) (trains_of entries)
  pub good : IsGoodBook (book_of track entries)
