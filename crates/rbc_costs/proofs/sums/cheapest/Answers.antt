use Rattle.std.proofs.Common.{◌≡◌, ◌+◌, ◌-◌, refl, ap, arith, get_or, length, map, subst}
use Rattle.rbc_costs.specs.Sums.{IsCheapest, price_up_to}
use Rattle.rbc_costs.proofs.TotalLemmas.{read_at, cheapest_one}
use Rattle.rbc_costs.proofs.sums.cheapest.Goals as goal

pub returns : goal.returns
returns g c =
    let costs = map g.N.Total.number c.args.costs.now in
    let before = price_up_to (map g.N.Total.number c.args.before.now) in
    let first = cheapest_one before (λ k. get_or costs k 0) 1 _ refl refl (read_at g.N.Total.number c.args.costs.now 0 _ c.index-costs-0.is c.requires.some) in
    subst (λ n. IsCheapest before (λ k. get_or costs k 0) n (g.N.Total.number c.cheapest_from.result)) (let e : 0 + length c.args.costs.now ≡ length c.args.costs.now = omega arith in e)
    (c.cheapest_from.ensures (λ k. get_or costs k 0) (λ i low h. ap (λ k. get_or costs k 0) (let e : i - 0 ≡ i = omega arith in e)) first)
