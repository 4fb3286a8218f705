-- Where a section's leg stands on a line.
use Rattle.std.specs.Prelude.{ℕ, ◌+◌, ◌-◌, ◌==◌, if◌then◌else◌, [], ◌∷◌, Option, Some, None, option_map}
use Rattle.rbc_model.specs.declared.places.Direction.{Direction}
use Rattle.rbc_model.specs.declared.places.Direction.TheVariants.{Rising, Falling}
use Rattle.rbc_model.specs.declared.places.Leg.{Leg}
use Rattle.rbc_model.specs.Tracks.{Track, metres_of}
use Rattle.rbc_model.specs.Lines.{Line}
use Rattle.rbc_book.specs.declared.places.LegPlace.{LegPlace}

-- the leg at the line's start
abbrev pub at_start : Track → Leg → LegPlace
at_start track leg = record { leg = leg; begin = 0; metres = metres_of track leg.section }

-- the leg, which begins this many metres farther on
abbrev pub farther : ℕ → LegPlace → LegPlace
farther metres place = record { leg = place.leg; begin = metres + place.begin; metres = place.metres }

-- the leg of the section with the place at which it begins, if the line has the section
abbrev pub leg_place : Track → Line → ℕ → Option LegPlace
leg_place track [] section = None
leg_place track (leg ∷ legs) section = if leg.section == section then Some (at_start track leg) else option_map (farther (metres_of track leg.section)) (leg_place track legs section)

-- how many metres of a leg in this direction, which has `metres` in all, a train runs along before the metre of this offset
abbrev pub metres_until : Direction → ℕ → ℕ → ℕ
metres_until Rising metres offset = offset
metres_until Falling metres offset = metres - 1 - offset
