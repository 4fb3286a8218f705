use Rattle.std.proofs.Common.{◌+◌, ◌<◌, length, get_or}
use Rattle.rbc_table_laws.specs.Breaks.{breaks_in}
use Rattle.rbc_stretches.proofs.backwards.run_up_to.Given as goal

abbrev pub invariant-loop-run : goal.invariant-loop-run
invariant-loop-run g l = (l.run < length l.track.steps) × (l.metre < get_or (breaks_in l.track) (l.run + 1) 0)

abbrev pub decreases-loop-run : goal.decreases-loop-run
decreases-loop-run g l = l.run
