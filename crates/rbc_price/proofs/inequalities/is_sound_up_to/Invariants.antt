use Rattle.std.proofs.Common.{◌≡◌, ◌+◌, ◌≤◌, None}
use Rattle.rbc_table_laws.specs.Breaks.{IsLowest}
use Rattle.rbc_table_laws.specs.PriceRows.{prices_of}
use Rattle.rbc_costs.specs.Stretches.{IsLostByFloor}
use Rattle.rbc_price.specs.Columns.{IsColumn}
use Rattle.rbc_price.specs.Places.{IsFirst}
use Rattle.rbc_price.proofs.inequalities.is_sound_up_to.Given as goal

abbrev pub invariant-loop-before : goal.invariant-loop-before
invariant-loop-before g l = record {
  from : IsColumn l.track l.from;
  order : l.from.index ≤ l.last.index;
  least : IsLowest g.V.Level.levels l.track l.from.stretch.from l.last.stretch.to l.least;
  cost : IsLostByFloor g.V.Level.levels l.track l.from.stretch.from l.last.stretch.to l.least l.cost;
  none : IsFirst g.V.Level.levels l.track (prices_of l.rows) (λ f to. (l.from.index ≤ f) × (to ≡ l.last.index + 1)) None;
}

abbrev pub decreases-loop-before : goal.decreases-loop-before
decreases-loop-before g l = l.from.index
