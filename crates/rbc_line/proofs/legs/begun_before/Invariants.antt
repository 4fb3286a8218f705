use Rattle.std.proofs.Common.{◌≡◌, ◌+◌, drop}
use Rattle.rbc_model.specs.Lines.{legs_begun_before}
use Rattle.rbc_line.proofs.legs.begun_before.Given as goal

abbrev pub invariant-loop-count : goal.invariant-loop-count
invariant-loop-count l = l.count + legs_begun_before l.track l.left (drop l.count l.legs) ≡ legs_begun_before l.track l.place l.legs
