use Rattle.std.proofs.Common.{ℕ, ◌<◌}
use Rattle.rbc_table_laws.specs.PriceRows.{prices_of}
use Rattle.rbc_price.specs.Places.{IsDearer}
use Rattle.rbc_price.proofs.inequalities.first_row.Given as goal

abbrev pub invariant-loop-row : goal.invariant-loop-row
invariant-loop-row l = (row : ℕ) → row < l.row → IsDearer (prices_of l.rows) l.cost (record { row = row; from = l.from; to = l.to }) → ⊥
