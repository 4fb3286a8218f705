use Rattle.std.proofs.Common.{◌≡◌, ℕ, ◌+◌, ◌-◌, ◌<◌, ◌≤◌, get_or, length, map}
use Rattle.rbc_costs.specs.Sums.{IsCheapest, price_up_to}
use Rattle.rbc_costs.proofs.sums.cheapest_from.Given as goal

abbrev pub invariant-loop-i : goal.invariant-loop-i
invariant-loop-i g l =
    let number = g.N.Total.number in
    (cost : ℕ → ℕ) → ((i : ℕ) → l.from ≤ i → i < l.cut + length l.costs → get_or (map number l.costs) (i - l.cut) 0 ≡ cost i)
    → IsCheapest (price_up_to (map number l.before)) cost l.from (number l.fn.known) → IsCheapest (price_up_to (map number l.before)) cost (l.cut + l.i) (number l.price)
