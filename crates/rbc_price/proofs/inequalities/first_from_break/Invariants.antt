use Rattle.std.proofs.Common.{◌≡◌, ◌+◌, ◌-◌, ◌≤◌}
use Rattle.rbc_table_laws.specs.PriceRows.{prices_of}
use Rattle.rbc_price.specs.Columns.{IsColumn, stretches_of}
use Rattle.rbc_price.specs.Costs.{IsCostAt, IsLowestStretch}
use Rattle.rbc_price.specs.Places.{IsFirst}
use Rattle.rbc_price.proofs.inequalities.first_from_break.Given as goal

abbrev pub invariant-loop-next : goal.invariant-loop-next
invariant-loop-next g l = record {
  last : IsColumn l.track l.last;
  behind : l.fn.lowest.column.index ≤ l.last.index;
  cost : IsCostAt g.V.Level.levels l.track l.from.stretch.from l.last.stretch.to l.fn.lowest.level l.cost;
  first : IsFirst g.V.Level.levels l.track (prices_of l.rows) (λ f to. (f ≡ l.from.index) × (to ≤ l.last.index + 1) × IsLowestStretch g.V.Level.levels l.track f to l.fn.lowest.column.index) l.first;
}

abbrev pub decreases-loop-next : goal.decreases-loop-next
decreases-loop-next g l = stretches_of l.track - l.last.index
