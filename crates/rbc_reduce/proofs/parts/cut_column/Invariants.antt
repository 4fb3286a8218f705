use Rattle.std.proofs.Common.{◌≡◌, ℕ, ◌+◌, ◌-◌, ◌<◌, get_or, length, map}
use Rattle.rbc_reduce.proofs.parts.cut_column.Given as goal

abbrev pub invariant-loop-i : goal.invariant-loop-i
invariant-loop-i g l =
    let number = g.N.Total.number in
    record {
      count : l.cut + length l.kept.items ≡ l.i;
      some : l.cut < l.i;
      first : get_or (map number l.kept.items) 0 0 ≡ get_or (map number l.costs) 0 0;
      behind : (k : ℕ) → l.cut < k → k < l.i → get_or (map number l.kept.items) (k - l.cut) 0 ≡ get_or (map number l.costs) k 0;
    }
