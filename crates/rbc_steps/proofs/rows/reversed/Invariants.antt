use Rattle.std.proofs.Common.{◌≡◌, drop}
use Rattle.rbc_steps.specs.Mirrored.{mirrored}
use Rattle.rbc_steps.proofs.rows.reversed.Given as goal

abbrev pub invariant-loop-index : goal.invariant-loop-index
invariant-loop-index g l = l.back.items ≡ mirrored l.end (drop l.index l.rows)
