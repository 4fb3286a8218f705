-- The levels along a line, of any kind of level that a section has for each of its metres.
use Rattle.std.specs.Prelude.{◌≡◌, ℕ, ◌+◌, ◌<◌, nat_lt, IsTrue, List, Option, option_and_then, option_map, slice_get}
use Rattle.std.specs.Option.{option_flatten}
use Rattle.std.specs.List.{list_all}
use Rattle.rbc_model.specs.declared.places.Direction.{Direction}
use Rattle.rbc_model.specs.declared.places.Leg.{Leg}
use Rattle.rbc_model.specs.Profiles.{value_at, starts_of, rises_from_zero}
use Rattle.rbc_model.specs.Tracks.{Section, Track, metre_of_leg}
use Rattle.rbc_model.specs.Lines.{Line, at_place}

-- the steps of a section, and what a train meets of a level on a leg of this direction
module _ {V : Type 0} (steps_of : Section → List (ℕ × V)) (met : Direction → V → V) (track : Track) where
  -- the level after k metres of a leg
  abbrev pub level_on : Leg → ℕ → Option V
  level_on leg k = option_map (met leg.direction) (option_and_then (λ section. value_at (steps_of section) (metre_of_leg track leg k).offset) (slice_get track.sections leg.section))

  -- the level at a place of a line
  abbrev pub level_at : Line → ℕ → Option V
  level_at line i = option_flatten (at_place level_on track line i)

  -- the level x metres beyond a place
  abbrev pub levels_from : Line → ℕ → ℕ → Option V
  levels_from line from x = level_at line (from + x)

-- the rows tell the levels of the first `metres` metres, and of these alone
pub record Tells {V : Type 0} (rows : List (ℕ × V)) (metres : ℕ) (level : ℕ → Option V) : Type 0 where
  pub rising : 0 < metres → IsTrue (rises_from_zero (starts_of rows))
  pub inside : IsTrue (list_all (λ start. nat_lt start metres) (starts_of rows))
  pub values : (x : ℕ) → x < metres → value_at rows x ≡ level x
