use Rattle.std.proofs.Common.{◌≡◌, ℕ, length, take}
use Rattle.rbc_reduce.specs.Rows.{row_at, row_in}
use Rattle.rbc_reduce.proofs.fill.widened.Given as goal

abbrev pub invariant-loop-row : goal.invariant-loop-row
invariant-loop-row g l = record {
  count : length l.wide.items ≡ l.row-index;
  rows : (j : ℕ) → row_at l.wide.items j ≡ row_in g.N.Total.number (take l.row-index l.rows) j;
}
