-- What a report comes to, and what it leaves of an authority, as the steps of its placing see it.
use Rattle.std.specs.Prelude.{ℕ, max, nat_lt, if◌then◌else◌, Option, Some, None}
use Rattle.rbc_model.specs.Placing.{Placed, renumbered}
use Rattle.rbc_model.specs.Trains.{Train}
use Rattle.rbc_extent.specs.PlacingSteps.{Finding}
use Rattle.rbc_extent.specs.declared.finding.Finding.{Finding as FindingHere}
use Rattle.rbc_extent.specs.declared.train.Authority.{Authority}

-- a finding as the steps see it
abbrev pub finding_view : FindingHere → Finding
finding_view found = record { old_origin = found.old_origin; placed = found.placed.placed }

-- an authority, or where it is empty, an empty one at the front
abbrev pub some_authority : Placed → ℕ → ℕ → Authority
some_authority placed from to = if nat_lt from to then record { from = from; to = to } else record { from = placed.front; to = placed.front }

-- what is left of the train's authority where it is placed: what lies behind the rear is given up
abbrev pub authority_left : Option Train → Finding → Authority
authority_left None found = record { from = found.placed.front; to = found.placed.front }
authority_left (Some train) found =
    if nat_lt train.from train.to
    then some_authority found.placed (max (renumbered found.old_origin found.placed.origin train.from) found.placed.rear)
    (renumbered found.old_origin found.placed.origin train.to)
    else record { from = found.placed.front; to = found.placed.front }
