use Rattle.std.proofs.Common.{◌-◌, ◌<◌, ◌≤◌, length, get_or}
use Rattle.rbc_table_laws.specs.Breaks.{breaks_in}
use Rattle.rbc_stretches.proofs.breaks.run_from.Given as goal

abbrev pub invariant-loop-run : goal.invariant-loop-run
invariant-loop-run g l = (l.run < length l.track.steps) × (get_or (breaks_in l.track) l.run 0 ≤ l.metre)

abbrev pub decreases-loop-run : goal.decreases-loop-run
decreases-loop-run g l = length l.track.steps - l.run
