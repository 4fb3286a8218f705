use Rattle.std.proofs.Common.{◌-◌, ◌≤◌}
use Rattle.rbc_price.specs.Columns.{IsColumn}
use Rattle.rbc_price.proofs.columns.metre_of.Given as goal

abbrev pub invariant-loop-column : goal.invariant-loop-column
invariant-loop-column g l = record {
  column : IsColumn l.track l.column;
  up_to : l.column.index ≤ l.index;
}

abbrev pub decreases-loop-column : goal.decreases-loop-column
decreases-loop-column g l = l.index - l.column.index
