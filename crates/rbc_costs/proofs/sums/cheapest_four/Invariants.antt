use Rattle.std.proofs.Common.{◌+◌, get_or, map}
use Rattle.rbc_costs.specs.Sums.{IsCheapest, price_up_to}
use Rattle.rbc_costs.proofs.sums.cheapest_four.Given as goal

abbrev pub invariant-loop-i : goal.invariant-loop-i
invariant-loop-i g l =
    let number = g.N.Total.number in
    record {
      first : IsCheapest (price_up_to (map number l.before)) (λ k. get_or (map number l.first) k 0) (l.i + 1) (number l.one);
      second : IsCheapest (price_up_to (map number l.before)) (λ k. get_or (map number l.second) k 0) (l.i + 1) (number l.two);
      third : IsCheapest (price_up_to (map number l.before)) (λ k. get_or (map number l.third) k 0) (l.i + 1) (number l.three);
      fourth : IsCheapest (price_up_to (map number l.before)) (λ k. get_or (map number l.fourth) k 0) (l.i + 1) (number l.four);
    }
