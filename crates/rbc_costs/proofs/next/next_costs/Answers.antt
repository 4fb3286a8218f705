use Rattle.std.proofs.Common.{arith, length, ℕ, ◌≡◌, ◌+◌, ◌-◌, ◌*◌, ◌<◌, ◌≤◌, false, inl, inr, Some, ap, ◌∙◌, get_or, map, subst}
use Rattle.std.specs.List.{slice_get}
use Rattle.std.proofs.lemmas.Bool.{cases_lt}
use Rattle.std.proofs.lemmas.Option.{slice_get-get_or}
use Rattle.rbc_model.specs.Levels.{IsInRange}
use Rattle.rbc_model.specs.declared.limits.TheConstants.{MOST_PRICE}
use Rattle.rbc_model.specs.Scales.{unit_of}
use Rattle.rbc_table_laws.specs.Breaks.{IsBelowAll, IsLowest, lost_below}
use Rattle.rbc_table_laws.specs.Stretches.{breaks_for, cost_of_step}
use Rattle.rbc_table_laws.proofs.StretchLemmas.{below_part, floor_range, floor_under, least_range}
use Rattle.rbc_stretches.specs.declared.stretch.Stretch.{Stretch}
use Rattle.rbc_costs.specs.Stretches.{IsLostByFloor, IsLowFrom}
use Rattle.rbc_costs.proofs.NextBreakLemmas.{cost_of_fallen, ends_at, least_there, near, rises}
use Rattle.rbc_costs.proofs.LowFromLemmas.{IsAhead, above_ahead, ahead_first, ahead_next, lowest_ahead, one_there}
use Rattle.rbc_costs.proofs.next.next_costs.Given.{Over}
use Rattle.rbc_costs.proofs.next.next_costs.Goals as goal
use Rattle.rbc_costs.proofs.next.next_costs.Goals.{After-index-stretches-end}

pub loop-end-init : goal.loop-end-init
loop-end-init g c =
    let level = g.met.V.Level g.world.𝓛 g.world.𝓜 g.world.𝓡 ((λ s x. x), (λ x. x), (λ x. x), λ x. x) in
    let to = length c.args.costs.now in
    let low = c.requires.firsts (to - 1) (omega (arith, c.requires.some, c.requires.inside)) in
    record {
      inside = low.inside;
      ahead = λ last there.
          ahead_first g.V.Level.levels (unit_of c.args.track.now.end) c.args.track.now c.args.stretches.now c.requires.stretches level.lawful c.known.ensures.track
          (get_or c.args.firsts.now (to - 1) 0) to c.requires.some c.requires.inside last there low;
      written = λ k below high. c.write_level.ensures k below high;
    }

-- ---- the last stretch, and the lower one before

abbrev break : (g : Over) → After-index-stretches-end g → ℕ → ℕ
break g c i = get_or (breaks_for (unit_of c.args.track.now.end) c.args.track.now) i 0

abbrev last : (g : Over) → After-index-stretches-end g → Stretch × g.row.V.Denot
last g c = get_or c.args.stretches.now (length c.args.costs.now - 1) c.index-stretches-to.result

last_there : (g : Over) (c : After-index-stretches-end g) → slice_get c.args.stretches.now (length c.args.costs.now - 1) ≡ Some (last g c)
last_there g c = slice_get-get_or c.args.stretches.now (length c.args.costs.now - 1) c.index-stretches-to.result (omega (arith, c.requires.some, c.requires.inside))

last_lowest : (g : Over) (c : After-index-stretches-end g) → IsLowest g.V.Level.levels c.args.track.now (break g c (length c.args.costs.now - 1)) (break g c (length c.args.costs.now)) (last g c).1
last_lowest g c =
    let next : length c.args.costs.now - 1 + 1 ≡ length c.args.costs.now = omega (arith, c.requires.some) in
    subst (λ n. IsLowest g.V.Level.levels c.args.track.now (break g c (length c.args.costs.now - 1)) (break g c n) (last g c).1) next
    (least_there g.V.Level.levels (unit_of c.args.track.now.end) c.args.track.now c.args.stretches.now c.requires.stretches (length c.args.costs.now - 1) _ (last_there g c))

last_range : (g : Over) (c : After-index-stretches-end g) → IsInRange g.V.Level.levels (last g c).1
last_range g c =
    let level = g.met.V.Level g.world.𝓛 g.world.𝓜 g.world.𝓡 ((λ s x. x), (λ x. x), (λ x. x), λ x. x) in
    least_range g.V.Level.levels level.lawful c.args.track.now c.known.ensures.track _ _ _ (near g.V.Level.levels (unit_of c.args.track.now.end) c.args.track.now c.args.stretches.now c.requires.stretches (length c.args.costs.now) c.requires.inside) (last_lowest g c)

abbrev lower : (g : Over) → After-index-stretches-end g → Stretch × g.row.V.Denot
lower g c = get_or c.args.stretches.now (c.loop-end.end - 1) c.index-stretches-end.result

lower_there : (g : Over) (c : After-index-stretches-end g) → slice_get c.args.stretches.now (c.loop-end.end - 1) ≡ Some (lower g c)
lower_there g c =
    let inside = c.loop-end.invariant.inside in
    slice_get-get_or c.args.stretches.now (c.loop-end.end - 1) c.index-stretches-end.result (omega (arith, c.loop-end-test.true, c.requires.some, c.requires.inside))

low : (g : Over) (c : After-index-stretches-end g) → IsLowFrom g.V.Level.levels (unit_of c.args.track.now.end) c.args.track.now c.args.stretches.now (c.loop-end.end - 1) (get_or c.args.firsts.now (c.loop-end.end - 1) 0)
low g c =
    let inside = c.loop-end.invariant.inside in
    c.requires.firsts (c.loop-end.end - 1) (omega (arith, c.loop-end-test.true, c.requires.some, c.requires.inside))

-- from there up to the end its value is the least
lowest : (g : Over) (c : After-index-stretches-end g) (i : ℕ) → get_or c.args.firsts.now (c.loop-end.end - 1) 0 ≤ i → i < c.loop-end.end
    → IsLowest g.V.Level.levels c.args.track.now (break g c i) (break g c (length c.args.costs.now)) (lower g c).1
lowest g c i from h =
    let level = g.met.V.Level g.world.𝓛 g.world.𝓜 g.world.𝓡 ((λ s x. x), (λ x. x), (λ x. x), λ x. x) in
    let inside = c.loop-end.invariant.inside in
    lowest_ahead g.V.Level.levels (unit_of c.args.track.now.end) c.args.track.now c.args.stretches.now c.requires.stretches level.lawful c.known.ensures.track
    c.loop-end.end (get_or c.args.firsts.now (c.loop-end.end - 1) 0) (length c.args.costs.now) c.loop-end-test.true (omega (arith, c.requires.some)) c.requires.inside (last g c).1 (last_range g c)
    (c.loop-end.invariant.ahead _ (last_there g c)) (lower g c) (lower_there g c) (low g c) i from h

above : (g : Over) (c : After-index-stretches-end g) → g.V.Level.levels.at_most (last g c).1 (lower g c).1 ≡ false
above g c =
    let level = g.met.V.Level g.world.𝓛 g.world.𝓜 g.world.𝓡 ((λ s x. x), (λ x. x), (λ x. x), λ x. x) in
    let inside = c.loop-end.invariant.inside in
    above_ahead g.V.Level.levels (unit_of c.args.track.now.end) c.args.track.now c.args.stretches.now c.requires.stretches level.lawful c.known.ensures.track
    c.loop-end.end (get_or c.args.firsts.now (c.loop-end.end - 1) 0) (length c.args.costs.now) c.loop-end-test.true (omega (arith, c.requires.some)) c.requires.inside (last g c).1 (last_range g c)
    (c.loop-end.invariant.ahead _ (last_there g c)) (lower g c) (lower_there g c) (low g c)

-- ---- what its floor loses on the last stretch

given : (g : Over) (c : After-index-stretches-end g)
    → IsInRange g.V.Level.levels (g.V.Level.levels.floor (lower g c).1) × IsBelowAll g.V.Level.levels c.args.track.now (last g c).0.from (last g c).0.to (g.V.Level.levels.floor (lower g c).1)
given g c =
    let level = g.met.V.Level g.world.𝓛 g.world.𝓜 g.world.𝓡 ((λ s x. x), (λ x. x), (λ x. x), λ x. x) in
    let inside = c.loop-end.invariant.inside in
    let up = (low g c).inside in
    let some = c.loop-end-test.true in
    let least = lowest g c (c.loop-end.end - 1) up (omega arith) in
    let end = near g.V.Level.levels (unit_of c.args.track.now.end) c.args.track.now c.args.stretches.now c.requires.stretches (length c.args.costs.now) c.requires.inside in
    let stands = c.requires.stretches.stand (length c.args.costs.now - 1) _ (last_there g c) in
    let from = stands.from in
    let to = ends_at (unit_of c.args.track.now.end) c.args.track.now (length c.args.costs.now) _ c.requires.some stands in
    let rise = rises g.V.Level.levels (unit_of c.args.track.now.end) c.args.track.now c.args.stretches.now c.requires.stretches (c.loop-end.end - 1) (length c.args.costs.now - 1) (omega arith) (omega (arith, c.requires.inside)) in (
      floor_range g.V.Level.levels level.lawful c.args.track.now c.known.ensures.track _ _ _ end least,
      below_part g.V.Level.levels level.lawful c.args.track.now c.known.ensures.track (break g c (c.loop-end.end - 1)) (break g c (length c.args.costs.now)) (last g c).0.from (last g c).0.to (g.V.Level.levels.floor (lower g c).1) (omega arith) (omega arith)
          (floor_under g.V.Level.levels level.lawful c.args.track.now c.known.ensures.track _ _ _ end least),
    )

pub price_on-lost-requires-clause-stretch : goal.price_on-lost-requires-clause-stretch
price_on-lost-requires-clause-stretch g c κs within = (c.requires.stretches.stand (length c.args.costs.now - 1) _ (last_there g (goal.at.price_on-lost-requires-clause-stretch g c).After-index-stretches-end)).on_track

pub price_on-lost-requires-clause-given_in_range : goal.price_on-lost-requires-clause-given_in_range
price_on-lost-requires-clause-given_in_range g c κs within = rw c.floor.ensures (given g (goal.at.price_on-lost-requires-clause-given_in_range g c).After-index-stretches-end).0

pub price_on-lost-requires-clause-below : goal.price_on-lost-requires-clause-below
price_on-lost-requires-clause-below g c κs within = rw c.floor.ensures (given g (goal.at.price_on-lost-requires-clause-below g c).After-index-stretches-end).1

-- with it a step costs what it costs up to the break behind
cost : (g : Over) (c : After-index-stretches-end g) (given : g.row.V.Denot) (lost : ℕ) → given ≡ g.V.Level.levels.floor (lower g c).1
    → lost_below g.V.Level.levels c.args.track.now given (last g c).0.from + lost ≡ lost_below g.V.Level.levels c.args.track.now given (last g c).0.to
    → (last g c).0.from * MOST_PRICE + lost ≤ (last g c).0.to * MOST_PRICE
    → (i : ℕ) → get_or c.args.firsts.now (c.loop-end.end - 1) 0 ≤ i → i < c.loop-end.end
    → get_or (map g.N.Total.number c.args.before.now) i 0 + lost ≡ cost_of_step g.V.Level.levels (unit_of c.args.track.now.end) c.args.track.now i (length c.args.costs.now)
cost g c given lost is price bound i from h =
    let level = g.met.V.Level g.world.𝓛 g.world.𝓜 g.world.𝓡 ((λ s x. x), (λ x. x), (λ x. x), λ x. x) in
    let inside = c.loop-end.invariant.inside in
    let to = length c.args.costs.now in
    let stands = c.requires.stretches.stand (to - 1) _ (last_there g c) in
    let seen = subst (λ v. lost_below g.V.Level.levels c.args.track.now v (last g c).0.from + lost ≡ lost_below g.V.Level.levels c.args.track.now v (last g c).0.to) is price in
    let by : IsLostByFloor g.V.Level.levels c.args.track.now (last g c).0.from (last g c).0.to (lower g c).1 lost = record { lost = seen; bound = bound } in
    let low = subst (λ k. IsLostByFloor g.V.Level.levels c.args.track.now k (last g c).0.to (lower g c).1 lost) stands.from by in
    let both = subst (λ k. IsLostByFloor g.V.Level.levels c.args.track.now (break g c (to - 1)) k (lower g c).1 lost) (ends_at (unit_of c.args.track.now.end) c.args.track.now to _ c.requires.some stands) low in
    cost_of_fallen g.V.Level.levels (unit_of c.args.track.now.end) c.args.track.now c.args.stretches.now c.requires.stretches level.lawful c.known.ensures.track i (to - 1) to (omega arith) (omega arith) c.requires.inside
    (lower g c).1 (last g c).1 _ lost (lowest g c i from h) (last_lowest g c) (above g c) (c.requires.before i (omega arith)) both

pub of-requires : goal.of-requires
of-requires g c =
    let at = (goal.at.of-requires g c).After-index-stretches-end in
    let inside = c.loop-end.invariant.inside in
    let up = (low g at).inside in
    let is = cost g at c.floor.result c.price_on-lost.result c.floor.ensures c.price_on-lost.ensures.price c.price_on-lost.ensures.bound (c.loop-end.end - 1) up (omega (arith, c.loop-end-test.true)) in
    let small = c.requires.small (c.loop-end.end - 1) (length c.args.costs.now) (omega (arith, c.loop-end-test.true, c.requires.some)) c.requires.inside in
    omega arith

pub write_more-requires-clause-small : goal.write_more-requires-clause-small
write_more-requires-clause-small g c κs within = λ i from h.
    let inside = c.loop-end.invariant.inside in
    let is = c.requires.before i (omega arith) in
    let small = c.requires.small i (length c.args.costs.now - 1) (omega arith) (omega (arith, c.requires.inside)) in
    omega arith

pub write_more-requires-clause-lost : goal.write_more-requires-clause-lost
write_more-requires-clause-lost g c κs within =
    let at = (goal.at.write_more-requires-clause-lost g c).After-index-stretches-end in
    let inside = c.loop-end.invariant.inside in
    let up = (low g at).inside in
    let is = cost g at c.floor.result c.price_on-lost.result c.floor.ensures c.price_on-lost.ensures.price c.price_on-lost.ensures.bound (c.loop-end.end - 1) up (omega (arith, c.loop-end-test.true)) in
    let small = c.requires.small (c.loop-end.end - 1) (length c.args.costs.now) (omega (arith, c.loop-end-test.true, c.requires.some)) c.requires.inside in
    omega (arith, c.of.ensures)

pub loop-end-preserved : goal.loop-end-preserved
loop-end-preserved g c =
    let level = g.met.V.Level g.world.𝓛 g.world.𝓜 g.world.𝓡 ((λ s x. x), (λ x. x), (λ x. x), λ x. x) in
    let at = (goal.at.loop-end-preserved g c).After-index-stretches-end in
    let inside = c.loop-end.invariant.inside in
    let up = (low g at).inside in
    let to = length c.args.costs.now in
    let ahead = ahead_next g.V.Level.levels (unit_of c.args.track.now.end) c.args.track.now c.args.stretches.now c.requires.stretches level.lawful c.known.ensures.track
    c.loop-end.end (get_or c.args.firsts.now (c.loop-end.end - 1) 0) to c.loop-end-test.true (omega (arith, c.requires.some)) c.requires.inside (last g at).1 (last_range g at)
    (c.loop-end.invariant.ahead _ (last_there g at)) (lower g at) (lower_there g at) (low g at) in
    record {
      inside = omega arith;
      ahead = λ s there. subst (λ t. IsAhead g.V.Level.levels (unit_of c.args.track.now.end) c.args.track.now c.args.stretches.now (get_or c.args.firsts.now (c.loop-end.end - 1) 0) to t.1) (one_there c.args.stretches.now (to - 1) _ _ (last_there g at) there) ahead;
      written = λ k from high. elim (cases_lt k c.loop-end.end) [
        | inl h ↦ c.write_more.ensures.written k from h ∙ ap (λ n. get_or (map g.N.Total.number c.args.before.now) k 0 + n) c.of.ensures
            ∙ cost g at c.floor.result c.price_on-lost.result c.floor.ensures c.price_on-lost.ensures.price c.price_on-lost.ensures.bound k from h
        | inr behind ↦ c.write_more.ensures.others k behind ∙ c.loop-end.invariant.written k behind high
      ];
    }

pub returns : goal.returns
returns g c = λ i h. c.loop-end.invariant.written i (omega (arith, c.loop-end-test.false)) h
