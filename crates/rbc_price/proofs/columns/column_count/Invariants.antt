use Rattle.std.proofs.Common.{◌-◌}
use Rattle.rbc_price.specs.Columns.{IsColumn, stretches_of}
use Rattle.rbc_price.proofs.columns.column_count.Given as goal

abbrev pub invariant-loop-next : goal.invariant-loop-next
invariant-loop-next g l = IsColumn l.track l.last

abbrev pub decreases-loop-next : goal.decreases-loop-next
decreases-loop-next g l = stretches_of l.track - l.last.index
