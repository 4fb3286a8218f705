use Rattle.std.proofs.Common.{◌≡◌, ℕ, [], length}
use Rattle.rbc_reduce.specs.Rows.{row_in}
use Rattle.rbc_reduce.proofs.table.empty_rows.Given as goal

abbrev pub invariant-loop-row : goal.invariant-loop-row
invariant-loop-row g l = record {
  count : length l.rows.items ≡ l._row;
  empty : (j : ℕ) → row_in g.N.Total.number l.rows.items j ≡ [];
}
