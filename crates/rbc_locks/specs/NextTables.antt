-- The next leg of each leg, kept section by section so that it is found without a search.
use Rattle.std.specs.Prelude.{◌≡◌, List, length, slice_get, slice_set, Option, None, option_and_then}
use Rattle.std.specs.Option.{option_map_or}
use Rattle.rbc_model.specs.declared.places.Direction.{Direction}
use Rattle.rbc_model.specs.declared.places.Direction.TheVariants.{Rising, Falling}
use Rattle.rbc_model.specs.declared.places.Leg.{Leg}
use Rattle.rbc_model.specs.Locks.{Locks, next}
use Rattle.rbc_scene_laws.specs.Good.{OneRowBehindEach}
use Rattle.rbc_locks.specs.declared.next_table.NextLegs.{NextLegs}

-- no leg is locked behind either leg of a section
abbrev pub no_next : NextLegs
no_next = record { rising = None; falling = None }

-- the next leg of a section's leg in this direction
abbrev pub next_in : Direction → NextLegs → Option Leg
next_in Rising legs = legs.rising
next_in Falling legs = legs.falling

-- the next legs of a section with another one in this direction
abbrev pub with_next_in : Direction → Option Leg → NextLegs → NextLegs
with_next_in Rising next legs = record legs { rising = next }
with_next_in Falling next legs = record legs { falling = next }

-- the leg that the table has behind the leg
abbrev pub next_leg : List NextLegs → Leg → Option Leg
next_leg table leg = option_and_then (next_in leg.direction) (slice_get table leg.section)

-- the table with another leg behind the leg, or with none
abbrev pub with_next : List NextLegs → Leg → Option Leg → List NextLegs
with_next table leg next =
    option_map_or (λ legs. slice_set table leg.section (with_next_in leg.direction next legs)) (slice_get table leg.section) table

-- the table has for each leg the one that is locked behind it; no leg stands before two rows, so this is one leg
pub record IsNextTable (locks : Locks) (table : List NextLegs) : Type 0 where
  pub as_many : length table ≡ length locks
  pub one_behind : OneRowBehindEach locks
  pub found : (leg : Leg) → next locks leg ≡ next_leg table leg
