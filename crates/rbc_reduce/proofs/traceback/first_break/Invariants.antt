use Rattle.std.proofs.Common.{◌≡◌, ◌≢◌, ℕ, ◌+◌, ◌<◌, get_or}
use Rattle.rbc_reduce.specs.Rows.{price_in}
use Rattle.rbc_reduce.proofs.traceback.first_break.Given as goal

abbrev pub invariant-loop-i : goal.invariant-loop-i
invariant-loop-i l =
    (l.price ≡ price_in l.rows (l.steps + 1) l.column)
    × ((k : ℕ) → k < l.i → price_in l.rows l.steps k + get_or l.costs k 0 ≢ price_in l.rows (l.steps + 1) l.column)
