-- What trains have of a section.
use Rattle.std.specs.Prelude.{ℕ, ◌+◌, ◌-◌, min, Bool, true, false, not, ◌&&◌, ◌==◌, nat_le, nat_lt, if◌then◌else◌, List, [], ◌∷◌, filter, flat_map, Option, Some, None}
use Rattle.rbc_model.specs.Tracks.{Track, metres_of}
use Rattle.rbc_model.specs.declared.places.Leg.{Leg}
use Rattle.rbc_model.specs.Lines.{Line}
use Rattle.rbc_model.specs.Trains.{Train}
use Rattle.rbc_search.specs.declared.stretches.Row.{Row}
use Rattle.rbc_search.specs.declared.stretches.Row.TheVariants.{Free, One, Several}
use Rattle.rbc_search.specs.declared.stretches.Span.{Span}
use Rattle.rbc_search.specs.declared.stretches.Stretch.{Stretch}

-- what the places from a up to b are on a leg of this many metres that begins at q
abbrev pub span_on : ℕ → ℕ → ℕ → ℕ → Span
span_on metres q a b = record { low = a - q; high = min (b - q) metres }

-- the span as a train meets it on a leg of this many metres of its section, in the same direction or not
abbrev pub span_met_on : Bool → ℕ → Span → Span
span_met_on true metres span = span
span_met_on false metres span = record { low = metres - span.high; high = metres - span.low }

-- whether the span has the metre
abbrev pub span_has : Span → ℕ → Bool
span_has span k = nat_le span.low k && nat_lt k span.high

-- what a train has of the section of a leg of its line that begins at q
abbrev pub stretch_of : Track → Train → ℕ → Leg → Stretch
stretch_of track train q leg = record {
  train = train.report.train;
  direction = leg.direction;
  extent = span_on (metres_of track leg.section) q train.rear train.front;
  authority = span_on (metres_of track leg.section) q train.from train.to;
}

-- what it has of a section by the legs of a line that begins at q
abbrev pub stretches_along : Track → Train → ℕ → ℕ → Line → List Stretch
stretches_along track train section q [] = []
stretches_along track train section q (leg ∷ line) =
    let rest = stretches_along track train section (q + metres_of track leg.section) line in
    if leg.section == section then stretch_of track train q leg ∷ rest else rest

-- what trains have of a section, in their order
abbrev pub stretches_of : Track → List Train → ℕ → List Stretch
stretches_of track trains section = flat_map (λ other. stretches_along track other section 0 other.line) trains

-- what one has of it, if anything
abbrev pub as_list : Option Stretch → List Stretch
as_list None = []
as_list (Some stretch) = stretch ∷ []

-- the trains but the one of this number
abbrev pub but : ℕ → List Train → List Train
but number trains = filter (λ other. not (other.report.train == number)) trains

-- what trains have of a section by its row, in their order
abbrev pub stretches_in : Row → List Stretch
stretches_in Free = []
stretches_in (One stretch) = stretch ∷ []
stretches_in (Several several) = several.items
