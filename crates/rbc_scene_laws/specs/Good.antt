-- What the scenes of a history keep: good locks, good trains, and authorities that are apart and locked.
use Rattle.std.specs.Prelude.{◌≡◌, ◌≢◌, ℕ, ◌<◌, ◌≤◌, IsTrue, length, All, AllPairs, Option, Some}
use Rattle.rbc_model.specs.declared.places.Leg.{Leg}
use Rattle.rbc_model.specs.declared.tracks.Lock.{Lock}
use Rattle.rbc_model.specs.Tracks.{Track, is_linked}
use Rattle.rbc_model.specs.Lines.{Line, IsLine, at_place, line_length}
use Rattle.rbc_model.specs.Locks.{Locks, row}
use Rattle.rbc_model.specs.Trains.{Train}
use Rattle.rbc_model.specs.Scenes.{Scene}
use Rattle.rbc_model.specs.Histories.{AuthoritiesAreApart, HeldAreLocked}

-- no leg stands before two rows
abbrev pub OneRowBehindEach : Locks → Type 0
OneRowBehindEach locks = (a b : ℕ) (x y : Lock) (before : Leg) → row locks a ≡ Some x → row locks b ≡ Some y → x.before ≡ Some before → y.before ≡ Some before → a ≡ b

-- a row for each section of the track; the leg before a row's leg is linked to it, and stands before no other
pub record IsGoodLocks (track : Track) (locks : Locks) : Type 0 where
  pub as_many : length locks ≡ length track.sections
  pub linked : (section : ℕ) (lock : Lock) (before : Leg) → row locks section ≡ Some lock → lock.before ≡ Some before → IsTrue (is_linked track before (record { section = section; direction = lock.direction }))
  pub one_behind : OneRowBehindEach locks

-- the train has a line, and its extent and its authority stand on it
pub record IsGoodTrain (track : Track) (train : Train) : Type 0 where
  pub line : IsLine track train.line
  pub origin : train.origin ≤ train.front
  pub rear : train.rear ≤ train.front
  pub front : train.front ≤ line_length track train.line
  pub behind : train.rear ≤ train.from
  pub from : train.from ≤ train.to
  pub to : train.to ≤ line_length track train.line

pub record IsGoodScene (track : Track) (scene : Scene) : Type 0 where
  pub locks : IsGoodLocks track scene.locks
  pub trains : All (IsGoodTrain track) scene.trains
  pub numbers_differ : AllPairs (λ a b. a.report.train ≢ b.report.train) scene.trains
  pub apart : AuthoritiesAreApart track scene
  pub locked : HeldAreLocked track scene

-- the leg at a place with how many metres of it lie before the place
abbrev pub spot : Track → Line → ℕ → Option (Leg × ℕ)
spot track line i = at_place (λ leg k. (leg, k)) track line i

-- each place of the authority after stands where one of the authority before stood
abbrev pub IsWithin : Track → Train → Train → Type 0
IsWithin track before after = (i : ℕ) → after.from ≤ i → i < after.to → (j : ℕ) × (before.from ≤ j) × (j < before.to) × (spot track after.line i ≡ spot track before.line j)
