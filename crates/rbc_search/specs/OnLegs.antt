-- The search on one leg, counted in metres of the leg.
use Rattle.std.specs.Prelude.{ℕ, ◌+◌, ◌-◌, max, min, Bool, nat_lt, nat_le, if◌then◌else◌, List, [], ◌∷◌, fold, find, Option, Some, None, option_map, unwrap_or}
use Rattle.rbc_model.specs.Tracks.{Track, direction_eq, metres_of}
use Rattle.rbc_model.specs.Trains.{Train}
use Rattle.rbc_model.specs.Scenes.{Scene}
use Rattle.rbc_model.specs.Obstacles.{first_some}
use Rattle.rbc_model.specs.declared.places.Leg.{Leg}
use Rattle.rbc_model.specs.declared.refusals.Obstacle.{Obstacle}
use Rattle.rbc_model.specs.declared.refusals.Obstacle.TheVariants.{NotLocked, Occupied, Held, Limit}
use Rattle.rbc_reach_laws.specs.Nearest.{leg_reach, leg_stop}
use Rattle.rbc_search.specs.declared.leg_search.Stop.{Stop}
use Rattle.rbc_model.specs.declared.places.Direction.{Direction}
use Rattle.rbc_reach_laws.specs.Nearest.{nearer}
use Rattle.rbc_search.specs.declared.stretches.Span.{Span}
use Rattle.rbc_search.specs.declared.stretches.Stretch.{Stretch}
use Rattle.rbc_search.specs.Stretches.{span_met_on, span_has}

-- the first metre of a span from one on, if there is one
abbrev pub first_from : ℕ → Span → Option ℕ
first_from first span = if nat_lt (max first span.low) span.high then Some (max first span.low) else None

-- a stretch's span as it is met on a leg in this direction
abbrev pub extent_met : Direction → ℕ → Stretch → Span
extent_met direction metres stretch = span_met_on (direction_eq stretch.direction direction) metres stretch.extent

abbrev pub authority_met : Direction → ℕ → Stretch → Span
authority_met direction metres stretch = span_met_on (direction_eq stretch.direction direction) metres stretch.authority

-- the nearest of a metre and of what a stretch has from one on
abbrev pub nearest_in : Direction → ℕ → ℕ → ℕ → Stretch → ℕ
nearest_in direction metres first near stretch =
    nearer (nearer near (first_from first (extent_met direction metres stretch))) (first_from first (authority_met direction metres stretch))

-- the first of the stretches whose span has the metre
abbrev pub first_train : (Stretch → Span) → ℕ → List Stretch → Option ℕ
first_train span k stretches = option_map (λ (stretch : Stretch). stretch.train) (find (λ stretch. span_has (span stretch) k) stretches)

-- how many of the metres of a leg that begins at p lie before the limit, which counts only from the search's start on
abbrev pub free_of : ℕ → ℕ → ℕ → ℕ → ℕ
free_of limit start p metres = if nat_le (max start p) limit then min metres (limit - p) else metres

-- how many metres of a leg are clear: up to the limit, all or none by its lock, and up to what the stretches have
abbrev pub clear_of : List Stretch → Bool → Direction → ℕ → ℕ → ℕ → ℕ
clear_of stretches locked direction metres first free =
    fold (nearest_in direction metres first) (nearer free (first_from first (record { low = 0; high = if locked then 0 else metres }))) stretches

-- what stands at a metre of a leg: what stands there before the limit, or else the limit
abbrev pub stop_met : List Stretch → Bool → Leg → ℕ → ℕ → Obstacle
stop_met stretches locked leg metres k =
    unwrap_or
    (first_some
    ((if locked then None else Some (NotLocked leg.section))
    ∷ option_map Occupied (first_train (extent_met leg.direction metres) k stretches)
    ∷ option_map Held (first_train (authority_met leg.direction metres) k stretches)
    ∷ []))
    Limit

-- the place and the obstacle of a stop; where there is none, what comes behind
abbrev pub told : Option Stop → ℕ × Obstacle → ℕ × Obstacle
told None rest = rest
told (Some stop) rest = (stop.place, stop.obstacle)

-- what the search comes to on a leg that begins at p, or goes on to
abbrev pub stop_or : Track → Scene → Train → Option Leg → ℕ → Leg → ℕ × Obstacle → ℕ × Obstacle
stop_or track scene train before p leg rest =
    if nat_lt (leg_reach track scene train before p leg) (p + metres_of track leg.section)
    then (leg_reach track scene train before p leg, leg_stop track scene train before leg (leg_reach track scene train before p leg - p))
    else rest
