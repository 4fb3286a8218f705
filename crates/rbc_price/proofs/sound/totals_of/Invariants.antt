use Rattle.std.proofs.Common.{◌≡◌, ℕ, ◌≤◌, get_or, map, take}
use Rattle.rbc_price.proofs.sound.totals_of.Given as goal

abbrev pub invariant-loop-price : goal.invariant-loop-price
invariant-loop-price g l = record {
  same : map g.N.Total.number l.totals.items ≡ take l.price-index l.row;
  small : (i : ℕ) → get_or (map g.N.Total.number l.totals.items) i 0 ≤ g.N.Total.most;
}
