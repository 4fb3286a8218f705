use Rattle.std.proofs.Common.{◌≡◌, ◌+◌, true, drop}
use Rattle.std.specs.Prelude.{option_map}
use Rattle.rbc_model.specs.Lines.{line_length, place_of}
use Rattle.rbc_model.specs.SoundTracks.{sections_differ}
use Rattle.rbc_line.proofs.legs.place_of.Given as goal

abbrev pub invariant-loop-leg : goal.invariant-loop-leg
invariant-loop-leg l = record {
  metres : l.begin + line_length l.track (drop l.leg-index l.legs) ≡ line_length l.track l.legs;
  differ : sections_differ (drop l.leg-index l.legs) ≡ true;
  place : option_map (λ place. l.begin + place) (place_of l.track (drop l.leg-index l.legs) l.group l.direction) ≡ place_of l.track l.legs l.group l.direction;
}
