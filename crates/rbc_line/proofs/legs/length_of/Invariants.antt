use Rattle.std.proofs.Common.{◌≡◌, ◌+◌, drop}
use Rattle.rbc_model.specs.Lines.{line_length}
use Rattle.rbc_line.proofs.legs.length_of.Given as goal

abbrev pub invariant-loop-leg : goal.invariant-loop-leg
invariant-loop-leg l = l.metres + line_length l.track (drop l.leg-index l.legs) ≡ line_length l.track l.legs
