use Rattle.std.proofs.Common.{◌+◌, ◌-◌, ◌≤◌, None}
use Rattle.rbc_table_laws.specs.PriceRows.{prices_of}
use Rattle.rbc_price.specs.Columns.{IsColumn, stretches_of}
use Rattle.rbc_price.specs.Places.{IsFirst}
use Rattle.rbc_price.proofs.inequalities.is_sound_by_pairs.Given as goal

abbrev pub invariant-loop-next : goal.invariant-loop-next
invariant-loop-next g l = record {
  column : IsColumn l.track l.last;
  none : IsFirst g.V.Level.levels l.track (prices_of l.rows) (λ from to. to ≤ l.last.index + 1) None;
}

abbrev pub decreases-loop-next : goal.decreases-loop-next
decreases-loop-next g l = stretches_of l.track - l.last.index
