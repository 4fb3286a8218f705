-- Which offsets of a section a train holds, as they are computed.
use Rattle.std.specs.Prelude.{ℕ, Bool}
use Rattle.rbc_model.specs.declared.places.Direction.{Direction}
use Rattle.rbc_model.specs.declared.places.Direction.TheVariants.{Rising}
use Rattle.rbc_model.specs.Tracks.{Track, direction_eq}
use Rattle.rbc_model.specs.Trains.{Train}
use Rattle.rbc_reach_laws.specs.Spans.{span_met}
use Rattle.rbc_good_laws.specs.Tests.{meet, offsets_held}
use Rattle.rbc_scene.specs.TrainsOnTracks.{TrainOnTrack}
use Rattle.rbc_scene_reading.specs.declared.apart.Span.{Span}

-- a span as a pair of numbers
abbrev pub pair_of : Span → ℕ × ℕ
pair_of span = (span.low, span.high)

-- the offsets at the places from a up to b, on a leg in this direction that begins at q
abbrev pub span_rising : Direction → ℕ → ℕ → ℕ → ℕ → ℕ × ℕ
span_rising direction metres q a b = span_met (direction_eq direction Rising) metres q a b

-- whether another train, on its track, holds a metre of the section with this one
abbrev pub shares : Track → ℕ → Train → TrainOnTrack → Bool
shares track section train other = meet (offsets_held track section train) (offsets_held other.track section other.train)
