use Rattle.std.proofs.Common.{◌≡◌, ◌+◌, drop}
use Rattle.std.specs.Prelude.{option_map}
use Rattle.rbc_model.specs.Lines.{line_length}
use Rattle.rbc_book.specs.LegPlaces.{farther, leg_place}
use Rattle.rbc_book.proofs.places.leg_among.Given as goal

abbrev pub invariant-loop-leg : goal.invariant-loop-leg
invariant-loop-leg l = record {
  metres : l.begin + line_length l.track (drop l.leg-index l.legs) ≡ line_length l.track l.legs;
  place : option_map (farther l.begin) (leg_place l.track (drop l.leg-index l.legs) l.section) ≡ leg_place l.track l.legs l.section;
}
