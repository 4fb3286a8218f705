use Rattle.std.proofs.Common.{◌≡◌, ◌≢◌, ℕ, ◌<◌, ◌≤◌, length}
use Rattle.rbc_reduce.specs.Rows.{price_in}
use Rattle.rbc_reduce.proofs.traceback.fewest.Given as goal

abbrev pub invariant-loop-steps : goal.invariant-loop-steps
invariant-loop-steps l =
    (l.price ≡ price_in l.rows (length l.rows) l.columns)
    × ((j : ℕ) → 1 ≤ j → j < l.steps → price_in l.rows j l.columns ≢ price_in l.rows (length l.rows) l.columns)
