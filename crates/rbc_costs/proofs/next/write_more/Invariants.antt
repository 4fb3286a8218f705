use Rattle.std.proofs.Common.{◌≡◌, ℕ, ◌+◌, ◌<◌, ◌≤◌, get_or, map}
use Rattle.rbc_costs.proofs.next.write_more.Given as goal

abbrev pub invariant-loop-i : goal.invariant-loop-i
invariant-loop-i g l =
    let number = g.N.Total.number in
    record {
      written : (k : ℕ) → l.from ≤ k → k < l.i → get_or (map number l.costs) k 0 ≡ get_or (map number l.before) k 0 + number l.lost;
      others : (k : ℕ) → l.i ≤ k → get_or (map number l.costs) k 0 ≡ get_or (map number l.fn.costs) k 0;
    }
