use Rattle.std.proofs.Common.{arith, ap, ◌+◌, ◌-◌, get_or, length, map, subst, ◌≡◌}
use Rattle.rbc_costs.specs.Sums.{IsCheapest, price_up_to}
use Rattle.rbc_costs.proofs.TotalLemmas.{read_at, up_at, cheapest_more}
use Rattle.rbc_costs.proofs.sums.cheapest_from.Goals as goal

pub plus-requires-clause-one : goal.plus-requires-clause-one
plus-requires-clause-one g c =
    let read = read_at g.N.Total.number c.args.before.now (c.args.cut + c.loop-i.i - 1) _ c.index-before-cut.is (omega arith) in
    let small = c.requires.small (c.args.cut + c.loop-i.i - 1) in
    omega arith

pub plus-requires-clause-two : goal.plus-requires-clause-two
plus-requires-clause-two g c =
    let read = read_at g.N.Total.number c.args.costs.now c.loop-i.i _ c.index-costs-i.is (omega arith) in
    let small = c.requires.small_costs c.loop-i.i in
    omega arith

pub loop-i-init : goal.loop-i-init
loop-i-init g c = λ cost is known.
    let begin : c.args.from ≡ c.args.cut + (c.args.from - c.args.cut) = omega (arith, c.requires.low) in
    subst (λ n. IsCheapest (price_up_to (map g.N.Total.number c.args.before.now)) cost n (g.N.Total.number c.args.known)) begin known

pub loop-i-preserved : goal.loop-i-preserved
loop-i-preserved g c = λ cost is known.
    let place = c.args.cut + c.loop-i.i in
    let at = up_at (map g.N.Total.number c.args.before.now) place (omega (arith, c.requires.some)) in
    let before = read_at g.N.Total.number c.args.before.now (place - 1) _ c.index-before-cut.is (omega (arith, c.requires.room)) in
    let read = read_at g.N.Total.number c.args.costs.now c.loop-i.i _ c.index-costs-i.is (omega arith) in
    let same = ap (λ k. get_or (map g.N.Total.number c.args.costs.now) k 0) (let e : place - c.args.cut ≡ c.loop-i.i = omega arith in e) in
    let here = is place (omega (arith, c.requires.low)) (omega arith) in
    cheapest_more (price_up_to (map g.N.Total.number c.args.before.now)) cost place (c.args.cut + (c.loop-i.i + 1)) (g.N.Total.number c.loop-i.price)
    (g.N.Total.number c.plus.result) _ (omega arith) (c.loop-i.invariant cost is known) (omega (arith, at, before, read, here, same, c.plus.ensures)) c.least-price.ensures

pub returns : goal.returns
returns g c = λ cost is known.
    let end : c.args.cut + c.loop-i.i ≡ c.args.cut + length c.args.costs.now = omega (arith, c.loop-i-test.false, c.requires.low, c.requires.inside) in
    subst (λ n. IsCheapest (price_up_to (map g.N.Total.number c.args.before.now)) cost n (g.N.Total.number c.loop-i.price)) end (c.loop-i.invariant cost is known)
