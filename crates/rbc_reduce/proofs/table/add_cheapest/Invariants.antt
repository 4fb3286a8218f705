use Rattle.std.proofs.Common.{◌≡◌, ℕ, suc, ◌<◌, ◌≤◌, [], ◌∷◌, ◌++◌, length, get_or, map}
use Rattle.rbc_reduce.specs.Rows.{IsCheapest, price_up_to, row_in}
use Rattle.rbc_reduce.proofs.table.add_cheapest.Given as goal

abbrev pub invariant-loop-row : goal.invariant-loop-row
invariant-loop-row g l =
    let number = g.N.Total.number in
    record {
      size : length l.rows.items ≡ length l.fn.rows.items;
      some : 1 ≤ l.row;
      before : (j : ℕ) → j < l.row → row_in number l.rows.items j ≡ row_in number l.fn.rows.items j;
      later : (j : ℕ) → l.row ≤ suc j → suc j < l.fn.end
          → (price : ℕ) × (row_in number l.rows.items (suc j) ≡ row_in number l.fn.rows.items (suc j) ++ price ∷ [])
          × IsCheapest (price_up_to (row_in number l.fn.rows.items j)) (λ k. get_or (map number l.costs) k 0) (length l.costs) price;
      behind : (j : ℕ) → l.fn.end ≤ j → row_in number l.rows.items j ≡ row_in number l.fn.rows.items j;
    }
