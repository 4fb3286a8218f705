-- Whether a scene is as what was told leaves it: each train stands where its last report tells, on its line, and each row is one that its route needs.
use Rattle.std.specs.Prelude.{◌≡◌, ℕ, ◌+◌, ◌≤◌, Bool, true, false, ◌&&◌, ◌==◌, nat_le, IsTrue, [], ◌∷◌, length, All, Option, Some, None, slice_get}
use Rattle.std.specs.Option.{option_eq, option_map_or}
use Rattle.std.specs.List.{list_any, list_all}
use Rattle.rbc_model.specs.declared.limits.TheConstants.{MOST_TRAINS}
use Rattle.rbc_model.specs.declared.places.Leg.{Leg}
use Rattle.rbc_model.specs.declared.tracks.BaliseGroup.{BaliseGroup}
use Rattle.rbc_model.specs.declared.tracks.Lock.{Lock}
use Rattle.rbc_model.specs.Tracks.{Track, Route, leg_eq, group_named}
use Rattle.rbc_model.specs.Scales.{farthest}
use Rattle.rbc_model.specs.Lines.{place_of}
use Rattle.rbc_model.specs.Locks.{Locks, row, needed_rows}
use Rattle.rbc_model.specs.Trains.{Train}
use Rattle.rbc_model.specs.Placing.{leg_told}
use Rattle.rbc_model.specs.Scenes.{Scene}

-- ---- trains

-- The group of the last report stands on the line, in the direction told, at the origin; the extent is that of the report, and the front lies no farther
-- from the group than an end may.
pub record IsAsTold (track : Track) (train : Train) (group : BaliseGroup) : Type 0 where
  pub origin : place_of track train.line group (leg_told group train.report).direction ≡ Some train.origin
  pub front : train.front ≡ train.origin + train.report.distance + train.report.under
  pub rear : train.rear + (train.report.over + train.report.length) ≡ train.origin + train.report.distance
  pub near : train.report.distance + train.report.under ≤ farthest track.format

-- so it is of a group of the track
abbrev pub StandsAsTold : Track → Train → Type 0
StandsAsTold track train = (group : BaliseGroup) × (group_named track train.report.group ≡ Some group) × IsAsTold track train group

-- ---- rows

-- the leg that a row of this section locks
abbrev pub own_leg : ℕ → Lock → Leg
own_leg section lock = record { section = section; direction = lock.direction }

-- whether two rows are the same: their legs, and the legs before
abbrev pub same_need : Leg × Option Leg → Leg × Option Leg → Bool
same_need a b = leg_eq a.0 b.0 && option_eq leg_eq a.1 b.1

-- whether the route needs the row
abbrev pub needs : Leg × Option Leg → Route → Bool
needs need route = list_any (λ other. same_need other need) (needed_rows route)

-- whether the row of a section is one that its route needs
abbrev pub is_needed : Track → ℕ → Lock → Bool
is_needed track section lock = option_map_or (needs (own_leg section lock, lock.before)) (slice_get track.routes lock.route) false

-- ---- scenes

-- Each row is one that its route needs, each train stands where its last report tells, and there are no more trains than there may be.
pub record IsToldScene (track : Track) (scene : Scene) : Type 0 where
  pub rows : (section : ℕ) (lock : Lock) → row scene.locks section ≡ Some lock → IsTrue (is_needed track section lock)
  pub trains : All (StandsAsTold track) scene.trains
  pub few : length scene.trains ≤ MOST_TRAINS

-- ---- as it is tested

abbrev pub is_place : ℕ → Option ℕ → Bool
is_place place None = false
is_place place (Some other) = other == place

abbrev pub is_as_told : Track → Train → BaliseGroup → Bool
is_as_told track train group =
    is_place train.origin (place_of track train.line group (leg_told group train.report).direction)
    && train.front == train.origin + train.report.distance + train.report.under
    && train.rear + (train.report.over + train.report.length) == train.origin + train.report.distance
    && nat_le (train.report.distance + train.report.under) (farthest track.format)

abbrev pub is_told_by : Track → Train → Option BaliseGroup → Bool
is_told_by track train None = false
is_told_by track train (Some group) = is_as_told track train group

abbrev pub stands_as_told : Track → Train → Bool
stands_as_told track train = is_told_by track train (group_named track train.report.group)

abbrev pub is_needed_row : Track → ℕ → Option Lock → Bool
is_needed_row track section None = true
is_needed_row track section (Some lock) = is_needed track section lock

-- the rows from this section's on
abbrev pub are_needed_rows : Track → ℕ → Locks → Bool
are_needed_rows track section [] = true
are_needed_rows track section (row ∷ rows) = is_needed_row track section row && are_needed_rows track (section + 1) rows

abbrev pub is_told_scene : Track → Scene → Bool
is_told_scene track scene = are_needed_rows track 0 scene.locks && list_all (stands_as_told track) scene.trains && nat_le (length scene.trains) MOST_TRAINS
