use Rattle.std.proofs.Common.{◌≡◌, ◌+◌, drop}
use Rattle.rbc_model.specs.Lines.{line_length}
use Rattle.rbc_search.specs.Stretches.{stretches_along}
use Rattle.rbc_search.proofs.stretches.stretch_along.Given as goal

abbrev pub invariant-loop-leg : goal.invariant-loop-leg
invariant-loop-leg l = record {
  metres : l.begin + line_length l.train.track (drop l.leg-index l.legs) ≡ line_length l.train.track l.legs;
  along : stretches_along l.train.track l.train.train l.section l.begin (drop l.leg-index l.legs) ≡ stretches_along l.train.track l.train.train l.section 0 l.legs;
}
