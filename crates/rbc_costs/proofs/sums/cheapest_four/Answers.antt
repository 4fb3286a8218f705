use Rattle.std.proofs.Common.{arith, ap, List, ℕ, ◌≡◌, ◌+◌, ◌-◌, refl, get_or, map, subst, length}
use Rattle.rbc_costs.specs.Sums.{IsCheapest, price_up_to}
use Rattle.rbc_costs.proofs.TotalLemmas.{read_at, up_at, cheapest_one, cheapest_more}
use Rattle.rbc_costs.proofs.sums.cheapest_four.Given.{Over}
use Rattle.rbc_costs.proofs.sums.cheapest_four.Goals as goal

pub plus-requires-clause-one : goal.plus-requires-clause-one
plus-requires-clause-one g c =
    let read = read_at g.N.Total.number c.args.before.now c.loop-i.i _ c.index-before-i.is (omega arith) in
    let small = c.requires.small c.loop-i.i in
    omega arith

pub plus-requires-clause-two : goal.plus-requires-clause-two
plus-requires-clause-two g c =
    let read = read_at g.N.Total.number c.args.first.now (c.loop-i.i + 1) _ c.index-first-i.is (omega (arith, c.requires.rooms)) in
    let small = c.requires.small_first (c.loop-i.i + 1) in
    omega arith

pub plus-requires-in-loop-i-clause-one : goal.plus-requires-in-loop-i-clause-one
plus-requires-in-loop-i-clause-one g c =
    let read = read_at g.N.Total.number c.args.before.now c.loop-i.i _ c.index-before-i.is (omega arith) in
    let small = c.requires.small c.loop-i.i in
    omega arith

pub plus-requires-in-loop-i-clause-two : goal.plus-requires-in-loop-i-clause-two
plus-requires-in-loop-i-clause-two g c =
    let read = read_at g.N.Total.number c.args.second.now (c.loop-i.i + 1) _ c.index-second-i.is (omega (arith, c.requires.rooms)) in
    let small = c.requires.small_second (c.loop-i.i + 1) in
    omega arith

pub plus-requires-in-loop-i-2-clause-one : goal.plus-requires-in-loop-i-2-clause-one
plus-requires-in-loop-i-2-clause-one g c =
    let read = read_at g.N.Total.number c.args.before.now c.loop-i.i _ c.index-before-i.is (omega arith) in
    let small = c.requires.small c.loop-i.i in
    omega arith

pub plus-requires-in-loop-i-2-clause-two : goal.plus-requires-in-loop-i-2-clause-two
plus-requires-in-loop-i-2-clause-two g c =
    let read = read_at g.N.Total.number c.args.third.now (c.loop-i.i + 1) _ c.index-third-i.is (omega (arith, c.requires.rooms)) in
    let small = c.requires.small_third (c.loop-i.i + 1) in
    omega arith

pub plus-requires-in-loop-i-3-clause-one : goal.plus-requires-in-loop-i-3-clause-one
plus-requires-in-loop-i-3-clause-one g c =
    let read = read_at g.N.Total.number c.args.before.now c.loop-i.i _ c.index-before-i.is (omega arith) in
    let small = c.requires.small c.loop-i.i in
    omega arith

pub plus-requires-in-loop-i-3-clause-two : goal.plus-requires-in-loop-i-3-clause-two
plus-requires-in-loop-i-3-clause-two g c =
    let read = read_at g.N.Total.number c.args.fourth.now (c.loop-i.i + 1) _ c.index-fourth-i.is (omega (arith, c.requires.rooms)) in
    let small = c.requires.small_fourth (c.loop-i.i + 1) in
    omega arith

-- a price by the break behind it
ap_before : (g : Over) (xs : List g.row.N.Denot) (i : ℕ) → get_or (map g.N.Total.number xs) (i + 1 - 1) 0 ≡ get_or (map g.N.Total.number xs) i 0
ap_before g xs i = ap (λ k. get_or (map g.N.Total.number xs) k 0) (let e : i + 1 - 1 ≡ i = omega arith in e)

pub loop-i-init : goal.loop-i-init
loop-i-init g c = record {
  first = cheapest_one (price_up_to (map g.N.Total.number c.args.before.now)) (λ k. get_or (map g.N.Total.number c.args.first.now) k 0) 1 _ refl refl (read_at g.N.Total.number c.args.first.now 0 _ c.index-first-0.is (omega (arith, c.requires.rooms)));
  second = cheapest_one (price_up_to (map g.N.Total.number c.args.before.now)) (λ k. get_or (map g.N.Total.number c.args.second.now) k 0) 1 _ refl refl (read_at g.N.Total.number c.args.second.now 0 _ c.index-second-0.is (omega (arith, c.requires.rooms)));
  third = cheapest_one (price_up_to (map g.N.Total.number c.args.before.now)) (λ k. get_or (map g.N.Total.number c.args.third.now) k 0) 1 _ refl refl (read_at g.N.Total.number c.args.third.now 0 _ c.index-third-0.is (omega (arith, c.requires.rooms)));
  fourth = cheapest_one (price_up_to (map g.N.Total.number c.args.before.now)) (λ k. get_or (map g.N.Total.number c.args.fourth.now) k 0) 1 _ refl refl (read_at g.N.Total.number c.args.fourth.now 0 _ c.index-fourth-0.is (omega (arith, c.requires.rooms)));
}

pub loop-i-preserved : goal.loop-i-preserved
loop-i-preserved g c =
    let number = g.N.Total.number in
    let i = c.loop-i.invariant in
    let at = up_at (map number c.args.before.now) (c.loop-i.i + 1) (omega arith) in
    let same = ap_before g c.args.before.now c.loop-i.i in
    let before = read_at number c.args.before.now c.loop-i.i _ c.index-before-i.is (omega arith) in
    record {
      first =
          let cost = read_at number c.args.first.now (c.loop-i.i + 1) _ c.index-first-i.is (omega (arith, c.requires.rooms)) in
          cheapest_more (price_up_to (map number c.args.before.now)) (λ k. get_or (map number c.args.first.now) k 0) (c.loop-i.i + 1) (c.loop-i.i + 1 + 1) (number c.loop-i.one)
          (number c.plus.result) _ (omega arith) i.first (omega (arith, at, same, before, cost, c.plus.ensures)) c.least-one.ensures;
      second =
          let cost = read_at number c.args.second.now (c.loop-i.i + 1) _ c.index-second-i.is (omega (arith, c.requires.rooms)) in
          cheapest_more (price_up_to (map number c.args.before.now)) (λ k. get_or (map number c.args.second.now) k 0) (c.loop-i.i + 1) (c.loop-i.i + 1 + 1) (number c.loop-i.two)
          (number c.plus-in-loop-i.result) _ (omega arith) i.second (omega (arith, at, same, before, cost, c.plus-in-loop-i.ensures)) c.least-two.ensures;
      third =
          let cost = read_at number c.args.third.now (c.loop-i.i + 1) _ c.index-third-i.is (omega (arith, c.requires.rooms)) in
          cheapest_more (price_up_to (map number c.args.before.now)) (λ k. get_or (map number c.args.third.now) k 0) (c.loop-i.i + 1) (c.loop-i.i + 1 + 1) (number c.loop-i.three)
          (number c.plus-in-loop-i-2.result) _ (omega arith) i.third (omega (arith, at, same, before, cost, c.plus-in-loop-i-2.ensures)) c.least-three.ensures;
      fourth =
          let cost = read_at number c.args.fourth.now (c.loop-i.i + 1) _ c.index-fourth-i.is (omega (arith, c.requires.rooms)) in
          cheapest_more (price_up_to (map number c.args.before.now)) (λ k. get_or (map number c.args.fourth.now) k 0) (c.loop-i.i + 1) (c.loop-i.i + 1 + 1) (number c.loop-i.four)
          (number c.plus-in-loop-i-3.result) _ (omega arith) i.fourth (omega (arith, at, same, before, cost, c.plus-in-loop-i-3.ensures)) c.least-four.ensures;
    }

pub returns-clause-first : goal.returns-clause-first
returns-clause-first g c =
    let end : c.loop-i.i ≡ length c.args.before.now = omega (arith, c.loop-i-test.false) in
    subst (λ n. IsCheapest (price_up_to (map g.N.Total.number c.args.before.now)) (λ k. get_or (map g.N.Total.number c.args.first.now) k 0) (n + 1) (g.N.Total.number c.loop-i.one)) end c.loop-i.invariant.first

pub returns-clause-second : goal.returns-clause-second
returns-clause-second g c =
    let end : c.loop-i.i ≡ length c.args.before.now = omega (arith, c.loop-i-test.false) in
    subst (λ n. IsCheapest (price_up_to (map g.N.Total.number c.args.before.now)) (λ k. get_or (map g.N.Total.number c.args.second.now) k 0) (n + 1) (g.N.Total.number c.loop-i.two)) end c.loop-i.invariant.second

pub returns-clause-third : goal.returns-clause-third
returns-clause-third g c =
    let end : c.loop-i.i ≡ length c.args.before.now = omega (arith, c.loop-i-test.false) in
    subst (λ n. IsCheapest (price_up_to (map g.N.Total.number c.args.before.now)) (λ k. get_or (map g.N.Total.number c.args.third.now) k 0) (n + 1) (g.N.Total.number c.loop-i.three)) end c.loop-i.invariant.third

pub returns-clause-fourth : goal.returns-clause-fourth
returns-clause-fourth g c =
    let end : c.loop-i.i ≡ length c.args.before.now = omega (arith, c.loop-i-test.false) in
    subst (λ n. IsCheapest (price_up_to (map g.N.Total.number c.args.before.now)) (λ k. get_or (map g.N.Total.number c.args.fourth.now) k 0) (n + 1) (g.N.Total.number c.loop-i.four)) end c.loop-i.invariant.fourth
