use Rattle.std.proofs.Common.{◌≡◌, ℕ, ◌<◌, ◌≤◌, [], ◌∷◌, ◌++◌, length}
use Rattle.rbc_reduce.specs.Rows.{row_in}
use Rattle.rbc_reduce.proofs.table.add_to_each.Given as goal

abbrev pub invariant-loop-row : goal.invariant-loop-row
invariant-loop-row g l =
    let number = g.N.Total.number in
    record {
      size : length l.rows.items ≡ length l.fn.rows.items;
      added : (j : ℕ) → l.first ≤ j → j < l.row → row_in number l.rows.items j ≡ row_in number l.fn.rows.items j ++ number l.price ∷ [];
      before : (j : ℕ) → j < l.first → row_in number l.rows.items j ≡ row_in number l.fn.rows.items j;
      behind : (j : ℕ) → l.row ≤ j → row_in number l.rows.items j ≡ row_in number l.fn.rows.items j;
    }
