-- Which trains have a leg of a section on their lines: how many they are, and who it is where it is one.
use Rattle.std.specs.Prelude.{◌≡◌, ℕ, ◌+◌, ◌-◌, ◌*◌, ◌≤◌, ◌<◌, ◌==◌, not, if◌then◌else◌, List, [], ◌∷◌, length, filter, get_or, Option, Some, None}
use Rattle.std.specs.List.{AllByRecursion}
use Rattle.rbc_model.specs.Lines.{has_section}
use Rattle.rbc_model.specs.Tracks.{Track}
use Rattle.rbc_model.specs.Trains.{Train}
use Rattle.rbc_model.specs.declared.limits.TheConstants.{LAST_TRAIN, MOST_TRAINS}
use Rattle.rbc_extent.specs.TrainsOnTracks.{TrainOnTrack}
use Rattle.rbc_book.specs.Books.{Book, number_in}
use Rattle.rbc_book.specs.declared.presence.Tally.{Tally}
use Rattle.rbc_book.specs.declared.book.Along.{Along}
use Rattle.rbc_book.specs.declared.book.Along.TheVariants.{Nobody, One, Several}

-- the tally of no train
abbrev pub nobody : Tally
nobody = record { trains = 0; numbers = 0 }

-- with a train more, and with one less
abbrev pub with_one : ℕ → Tally → Tally
with_one number tally = record { trains = tally.trains + 1; numbers = tally.numbers + number }

abbrev pub without_one : ℕ → Tally → Tally
without_one number tally = record { trains = tally.trains - 1; numbers = tally.numbers - number }

-- a train more can be counted
abbrev pub HasRoom : Tally → Type 0
HasRoom tally = (tally.trains < MOST_TRAINS) × (tally.numbers ≤ tally.trains * LAST_TRAIN)

-- what a table has for a section
abbrev pub tally_at : List Tally → ℕ → Tally
tally_at tallies section = get_or tallies section nobody

-- the tally once a train is counted where it stands, and once it is no more
abbrev pub tally_with : Train → ℕ → Tally → Tally
tally_with train section tally = if has_section train.line section then with_one (number_in train) tally else tally

abbrev pub tally_without : Train → ℕ → Tally → Tally
tally_without train section tally = if has_section train.line section then without_one (number_in train) tally else tally

-- the tally without this train, if there is one
abbrev pub tally_less : Option TrainOnTrack → ℕ → Tally → Tally
tally_less None section tally = tally
tally_less (Some train) section tally = tally_without train.train section tally

-- the tally of the trains that have the section on their lines
abbrev pub tally_of : ℕ → List Train → Tally
tally_of section [] = nobody
tally_of section (train ∷ trains) = tally_with train section (tally_of section trains)

-- the table has the tally of each section; there are not more trains than may be, and their numbers are not greater than they may be
pub record ArePresent (track : Track) (trains : List Train) (tallies : List Tally) : Type 0 where
  pub as_many : length tallies ≡ length track.sections
  pub few : length trains ≤ MOST_TRAINS
  pub numbers : AllByRecursion (λ train. number_in train ≤ LAST_TRAIN) trains
  pub each : (section : ℕ) → tally_at tallies section ≡ tally_of section trains

-- the trains but the one of this number that have the section on their lines, in order of arrival
abbrev pub others_along : Book → ℕ → ℕ → List Train
others_along book number section = filter (λ train. has_section train.line section) (filter (λ train. not (number_in train == number)) book.trains)

-- what is said of them: that there is none, which one it is, or that there are several
abbrev pub IsAlong : List TrainOnTrack → Along → Type 0
IsAlong trains Nobody = trains ≡ []
IsAlong trains (One train) = trains ≡ train.now ∷ []
IsAlong trains Several = 2 ≤ length trains
