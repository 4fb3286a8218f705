use Rattle.std.proofs.Common.{arith, length, length-set, ℕ, ◌≡◌, ◌+◌, ◌-◌, inl, inr, Some, ap, sym, ◌∙◌, get_or, map, set, subst}
use Rattle.std.specs.List.{slice_get}
use Rattle.std.proofs.lemmas.Option.{slice_get-get_or}
use Rattle.rbc_model.specs.Scales.{unit_of}
use Rattle.rbc_table_laws.specs.Breaks.{IsLowest}
use Rattle.rbc_table_laws.specs.Stretches.{breaks_for, cost_of_step}
use Rattle.rbc_stretches.specs.declared.stretch.Stretch.{Stretch}
use Rattle.rbc_model.proofs.ScanLemmas.{at_or_past}
use Rattle.rbc_costs.specs.Stretches.{IsLostByFloor}
use Rattle.rbc_costs.proofs.NextBreakLemmas.{cost_of_floor, flat_given, flat_more, near}
use Rattle.rbc_costs.proofs.LowFromLemmas.{lowest_from, one_there}
use Rattle.rbc_costs.proofs.TotalLemmas.{map_set_at, map_set_other}
use Rattle.rbc_costs.proofs.next.write_level.Given.{Over}
use Rattle.rbc_costs.proofs.next.write_level.Goals as goal
use Rattle.rbc_costs.proofs.next.write_level.Goals.{After-index-stretches-i, After-price_on-price}

abbrev break : (g : Over) → After-index-stretches-i g → ℕ → ℕ
break g c i = get_or (breaks_for (unit_of c.args.track.now.end) c.args.track.now) i 0

-- the last stretch
abbrev last : (g : Over) → After-index-stretches-i g → Stretch × g.row.V.Denot
last g c = get_or c.args.stretches.now (length c.args.costs.now - 1) c.index-stretches-to.result

last_there : (g : Over) (c : After-index-stretches-i g) → slice_get c.args.stretches.now (length c.args.costs.now - 1) ≡ Some (last g c)
last_there g c = slice_get-get_or c.args.stretches.now (length c.args.costs.now - 1) c.index-stretches-to.result (omega (arith, c.requires.some, c.requires.inside))

-- the stretch of the loop's turn
abbrev here : (g : Over) → After-index-stretches-i g → Stretch × g.row.V.Denot
here g c = get_or c.args.stretches.now (c.loop-i.i - 1) c.index-stretches-i.result

here_there : (g : Over) (c : After-index-stretches-i g) → slice_get c.args.stretches.now (c.loop-i.i - 1) ≡ Some (here g c)
here_there g c = slice_get-get_or c.args.stretches.now (c.loop-i.i - 1) c.index-stretches-i.result (omega arith)

-- from there on the last value is the least
lowest : (g : Over) (c : After-index-stretches-i g) → IsLowest g.V.Level.levels c.args.track.now (break g c (c.loop-i.i - 1)) (break g c (length c.args.costs.now)) (last g c).1
lowest g c =
    let level = g.met.V.Level g.world.𝓛 g.world.𝓜 g.world.𝓡 ((λ s x. x), (λ x. x), (λ x. x), λ x. x) in
    let low = c.loop-i.invariant.low in
    lowest_from g.V.Level.levels (unit_of c.args.track.now.end) c.args.track.now c.args.stretches.now c.requires.stretches level.lawful c.known.ensures.track
    c.args.first (c.loop-i.i - 1) (length c.args.costs.now - 1) (length c.args.costs.now) (omega (arith, c.requires.some)) c.requires.inside (omega arith) (omega arith) (last g c) (last_there g c) c.requires.low

given : (g : Over) (c : After-index-stretches-i g) → c.floor-given.result ≡ g.V.Level.levels.floor (last g c).1
given g c = c.floor-given.ensures

pub price_on-price-requires-clause-stretch : goal.price_on-price-requires-clause-stretch
price_on-price-requires-clause-stretch g c κs within =
    (c.requires.stretches.stand (c.loop-i.i - 1) _ (here_there g (goal.at.price_on-price-requires-clause-stretch g c).After-index-stretches-i)).on_track

pub price_on-price-requires-clause-given_in_range : goal.price_on-price-requires-clause-given_in_range
price_on-price-requires-clause-given_in_range g c κs within =
    let level = g.met.V.Level g.world.𝓛 g.world.𝓜 g.world.𝓡 ((λ s x. x), (λ x. x), (λ x. x), λ x. x) in
    let at = (goal.at.price_on-price-requires-clause-given_in_range g c).After-index-stretches-i in
    (flat_given g.V.Level.levels (unit_of c.args.track.now.end) c.args.track.now c.args.stretches.now c.requires.stretches level.lawful c.known.ensures.track (c.loop-i.i - 1) (length c.args.costs.now) _ (here_there g at) (omega arith) c.requires.inside _ c.floor-given.result (lowest g at) (given g at)).0

pub price_on-price-requires-clause-below : goal.price_on-price-requires-clause-below
price_on-price-requires-clause-below g c κs within =
    let level = g.met.V.Level g.world.𝓛 g.world.𝓜 g.world.𝓡 ((λ s x. x), (λ x. x), (λ x. x), λ x. x) in
    let at = (goal.at.price_on-price-requires-clause-below g c).After-index-stretches-i in
    (flat_given g.V.Level.levels (unit_of c.args.track.now.end) c.args.track.now c.args.stretches.now c.requires.stretches level.lawful c.known.ensures.track (c.loop-i.i - 1) (length c.args.costs.now) _ (here_there g at) (omega arith) c.requires.inside _ c.floor-given.result (lowest g at) (given g at)).1

-- what the last value's floor loses with one stretch more
lost : (g : Over) (c : After-price_on-price g) → (at : After-index-stretches-i g) → (s : Stretch × g.row.V.Denot) → slice_get c.args.stretches.now (length c.args.costs.now - 1) ≡ Some s
    → IsLostByFloor g.V.Level.levels c.args.track.now (get_or (breaks_for (unit_of c.args.track.now.end) c.args.track.now) (c.loop-i.i - 1) 0) (get_or (breaks_for (unit_of c.args.track.now.end) c.args.track.now) (length c.args.costs.now) 0) s.1 (c.loop-i.price + c.price_on-price.result)
lost g c at s there =
    let level = g.met.V.Level g.world.𝓛 g.world.𝓜 g.world.𝓡 ((λ s x. x), (λ x. x), (λ x. x), λ x. x) in
    let next : c.loop-i.i ≡ c.loop-i.i - 1 + 1 = omega arith in
    let stands = slice_get-get_or c.args.stretches.now (c.loop-i.i - 1) c.index-stretches-i.result (omega arith) in
    let same = one_there c.args.stretches.now (length c.args.costs.now - 1) _ _ (slice_get-get_or c.args.stretches.now (length c.args.costs.now - 1) c.index-stretches-to.result (omega (arith, c.requires.some, c.requires.inside))) there in
    let before = subst (λ k. IsLostByFloor g.V.Level.levels c.args.track.now (get_or (breaks_for (unit_of c.args.track.now.end) c.args.track.now) k 0) (get_or (breaks_for (unit_of c.args.track.now.end) c.args.track.now) (length c.args.costs.now) 0) s.1 c.loop-i.price) next (c.loop-i.invariant.lost s there) in
    flat_more g.V.Level.levels (unit_of c.args.track.now.end) c.args.track.now c.args.stretches.now c.requires.stretches level.lawful c.known.ensures.track (c.loop-i.i - 1) (length c.args.costs.now) _ stands s.1 c.floor-given.result c.loop-i.price c.price_on-price.result
    (c.floor-given.ensures ∙ ap (λ t. g.V.Level.levels.floor t.1) same) c.price_on-price.ensures.price c.price_on-price.ensures.bound before

-- it is what the step costs
cost : (g : Over) (c : After-price_on-price g) → (at : After-index-stretches-i g)
    → c.loop-i.price + c.price_on-price.result ≡ cost_of_step g.V.Level.levels (unit_of c.args.track.now.end) c.args.track.now (c.loop-i.i - 1) (length c.args.costs.now)
cost g c at =
    let level = g.met.V.Level g.world.𝓛 g.world.𝓜 g.world.𝓡 ((λ s x. x), (λ x. x), (λ x. x), λ x. x) in
    let low = c.loop-i.invariant.low in
    let there = slice_get-get_or c.args.stretches.now (length c.args.costs.now - 1) c.index-stretches-to.result (omega (arith, c.requires.some, c.requires.inside)) in
    let least = lowest_from g.V.Level.levels (unit_of c.args.track.now.end) c.args.track.now c.args.stretches.now c.requires.stretches level.lawful c.known.ensures.track
    c.args.first (c.loop-i.i - 1) (length c.args.costs.now - 1) (length c.args.costs.now) (omega (arith, c.requires.some)) c.requires.inside (omega arith) (omega arith) _ there c.requires.low in
    cost_of_floor g.V.Level.levels (unit_of c.args.track.now.end) c.args.track.now c.args.stretches.now c.requires.stretches level.lawful c.known.ensures.track (c.loop-i.i - 1) (length c.args.costs.now) c.requires.inside _ _ least (lost g c at _ there)

pub overflow_add-price : goal.overflow_add-price
overflow_add-price g c =
    let at = goal.at.overflow_add-price g c in
    let by = lost g at.After-price_on-price at.After-index-stretches-i _ (last_there g at.After-index-stretches-i) in
    let bound = by.bound in
    let end = near g.V.Level.levels (unit_of c.args.track.now.end) c.args.track.now c.args.stretches.now c.requires.stretches (length c.args.costs.now) c.requires.inside in
    let limit = c.known.ensures.within_limit in
    omega arith

pub of-requires : goal.of-requires
of-requires g c =
    let at = goal.at.of-requires g c in
    let is = cost g at.After-price_on-price at.After-index-stretches-i in
    let small = c.requires.small (c.loop-i.i - 1) (omega arith) in
    omega arith

pub loop-i-preserved : goal.loop-i-preserved
loop-i-preserved g c =
    let at = goal.at.loop-i-preserved g c in
    let number = g.N.Total.number in
    let to = length c.args.costs.now in
    let is = cost g at.After-price_on-price at.After-index-stretches-i in
    record {
      low = omega arith;
      lost = lost g at.After-price_on-price at.After-index-stretches-i;
      written = λ k low high. elim (at_or_past (c.loop-i.i - 1) k low) [
        | inl e ↦
            ap (λ x. get_or (map number (set c.loop-i.costs (c.loop-i.i - 1) c.of.result)) x 0) e
            ∙ map_set_at number c.loop-i.costs (c.loop-i.i - 1) c.of.result (omega (arith, length-set {A = g.row.N.Denot}))
            ∙ c.of.ensures ∙ is ∙ ap (λ x. cost_of_step g.V.Level.levels (unit_of c.args.track.now.end) c.args.track.now x to) (sym e)
        | inr l ↦ map_set_other number c.loop-i.costs (c.loop-i.i - 1) k c.of.result (λ e. omega (arith, e, l)) ∙ c.loop-i.invariant.written k (omega arith) high
      ];
    }

pub returns : goal.returns
returns g c = λ i low high. c.loop-i.invariant.written i (omega (arith, c.loop-i-test.false, low)) high
