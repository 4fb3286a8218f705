use Rattle.std.proofs.Common.{◌≡◌, ◌+◌, drop}
use Rattle.rbc_model.specs.Lines.{legs_ending_by}
use Rattle.rbc_line.proofs.legs.ending_by.Given as goal

abbrev pub invariant-loop-count : goal.invariant-loop-count
invariant-loop-count l = l.count + legs_ending_by l.track l.left (drop l.count l.legs) ≡ legs_ending_by l.track l.place l.legs
