use Rattle.std.proofs.Common.{ℕ, suc, ◌+◌, ◌<◌, ◌≤◌, length, get_or, map}
use Rattle.rbc_costs.specs.Sums.{price_up_to, row_in}
use Rattle.rbc_price.proofs.sound.is_sound_column.Given as goal

abbrev pub invariant-loop-row : goal.invariant-loop-row
invariant-loop-row g l =
    (j : ℕ) → suc j < l.row → (i : ℕ) → i < length l.costs
    → price_up_to (row_in g.N.Total.number l.rows (suc j)) (length l.costs) ≤ price_up_to (row_in g.N.Total.number l.rows j) i + get_or (map g.N.Total.number l.costs) i 0
