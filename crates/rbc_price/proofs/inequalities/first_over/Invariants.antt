use Rattle.std.proofs.Common.{◌≤◌}
use Rattle.rbc_table_laws.specs.PriceRows.{prices_of}
use Rattle.rbc_price.specs.Columns.{IsColumn}
use Rattle.rbc_price.specs.Costs.{IsCostAt, IsLowestStretch}
use Rattle.rbc_price.specs.Places.{IsFirst}
use Rattle.rbc_price.proofs.inequalities.first_over.Given as goal

abbrev pub invariant-loop-before : goal.invariant-loop-before
invariant-loop-before g l = record {
  from : IsColumn l.track l.from;
  order : l.from.index ≤ l.fn.column.index;
  cost : IsCostAt g.V.Level.levels l.track l.from.stretch.from l.fn.column.stretch.to l.level l.cost;
  first : IsFirst g.V.Level.levels l.track (prices_of l.rows) (λ f to. (l.from.index ≤ f) × IsLowestStretch g.V.Level.levels l.track f to l.fn.column.index) l.first;
}

abbrev pub decreases-loop-before : goal.decreases-loop-before
decreases-loop-before g l = l.from.index
