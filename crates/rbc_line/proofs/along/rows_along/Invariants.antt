use Rattle.std.proofs.Common.{◌≡◌, ◌+◌, ◌-◌, drop, min}
use Rattle.rbc_model.specs.Lines.{line_length}
use Rattle.rbc_line.specs.Along.{Tells, levels_from}
use Rattle.rbc_line.proofs.along.rows_along.Given as goal

abbrev pub invariant-loop-leg : goal.invariant-loop-leg
invariant-loop-leg g l = record {
  metres : l.begin + line_length l.track (drop l.leg-index l.legs) ≡ line_length l.track l.legs;
  tells : Tells l.rows.items (min l.begin l.to - l.from) (levels_from g.V.TrackLevel.steps_of g.V.TrackLevel.met l.track l.legs l.from);
}
