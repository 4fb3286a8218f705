use Rattle.std.proofs.Common.{ℕ, ◌-◌, ◌≤◌}
use Rattle.rbc_table_laws.specs.PriceRows.{prices_of}
use Rattle.rbc_price.specs.Columns.{IsColumn, stretches_of}
use Rattle.rbc_price.specs.Costs.{IsLowestStretch}
use Rattle.rbc_price.specs.Places.{IsFirst}
use Rattle.rbc_price.proofs.inequalities.first_of_all.Given as goal

abbrev pub invariant-loop-next : goal.invariant-loop-next
invariant-loop-next g l = record {
  column : IsColumn l.track l.lowest;
  first : IsFirst g.V.Level.levels l.track (prices_of l.rows) (λ from to. (lowest : ℕ) × (lowest ≤ l.lowest.index) × IsLowestStretch g.V.Level.levels l.track from to lowest) l.first;
}

abbrev pub decreases-loop-next : goal.decreases-loop-next
decreases-loop-next g l = stretches_of l.track - l.lowest.index
