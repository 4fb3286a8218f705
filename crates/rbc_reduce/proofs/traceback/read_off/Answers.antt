use Rattle.std.proofs.Common.{arith, ◌≡◌, ◌≢◌, ℕ, suc, ◌+◌, ◌-◌, ◌<◌, ◌++◌, ◌∷◌, [], ap, sym, ◌∙◌, subst, length, get_or}
use Rattle.std.proofs.lemmas.Option.{slice_get-get_or}
use Rattle.rbc_model.specs.PriceTables.{stretch_count}
use Rattle.rbc_model.specs.Scales.{unit_of}
use Rattle.rbc_table_laws.specs.Tracebacks.{IsOnWay, IsTracedTo}
use Rattle.rbc_table_laws.specs.Stretches.{breaks_for, cost_of_step}
use Rattle.rbc_table_laws.specs.PriceRows.{prices_of}
use Rattle.rbc_reduce.specs.Rows.{price_in}
use Rattle.rbc_costs.proofs.NextBreakLemmas.{near}
use Rattle.rbc_reduce.proofs.ReadBackLemmas.{some_break, read_off, one_back}
use Rattle.rbc_reduce.proofs.traceback.read_off.Goals as goal
use Rattle.rbc_model.proofs.ScaleLemmas.{some_unit}

pub first_break-from-requires-clause-wide : goal.first_break-from-requires-clause-wide
first_break-from-requires-clause-wide g c =
    let wide = c.requires.wide in
    let room = wide.room in
    record { width = wide.width; wide = wide.wide; room = omega (arith, c.loop-before.invariant.1) }

pub first_break-from-requires-clause-small_costs : goal.first_break-from-requires-clause-small_costs
first_break-from-requires-clause-small_costs g c i h =
    let low = c.costs_to.ensures.bound i h in
    let end = near g.V.Level.levels (unit_of c.args.track.now.end) c.args.track.now c.args.stretches.now c.requires.stretches c.loop-before.to c.loop-before.invariant.1 in
    let limit = c.known.ensures.within_limit in
    omega arith

pub first_break-from-requires-clause-some : goal.first_break-from-requires-clause-some
first_break-from-requires-clause-some g c =
    let level = g.met.V.Level g.world.𝓛 g.world.𝓜 g.world.𝓡 ((λ s x. x), (λ x. x), (λ x. x), λ x. x) in
    let next : c.loop-before.before - 1 + 1 ≡ suc (c.loop-before.before - 1) = omega arith in
    let row : c.loop-before.before ≡ suc (c.loop-before.before - 1) = omega arith in
    let on = subst (λ j. IsOnWay g.V.Level.levels (unit_of c.args.track.now.end) c.args.limit c.args.track.now.end c.args.track.now.steps (prices_of c.args.rows.now) j c.loop-before.to) row c.loop-before.invariant.3 in
    let some = some_break g.V.Level.levels level.lawful c.args.track.now c.known.ensures.track (unit_of c.args.track.now.end) (some_unit c.args.track.now.end) c.requires.whole (breaks_for (unit_of c.args.track.now.end) c.args.track.now) c.requires.stretches.breaks c.args.limit c.args.rows.now c.requires.table
    (c.loop-before.before - 1) c.loop-before.to (omega arith) (omega (arith, c.loop-before.invariant.1, c.requires.stretches.count)) on in
    let cost = c.costs_to.ensures.costs some.0 some.1 in
    rw next (some.0, some.1, ap (λ k. price_in c.args.rows.now (c.loop-before.before - 1) some.0 + k) cost ∙ some.2)

pub loop-before-preserved : goal.loop-before-preserved
loop-before-preserved g c =
    let level = g.met.V.Level g.world.𝓛 g.world.𝓜 g.world.𝓡 ((λ s x. x), (λ x. x), (λ x. x), λ x. x) in
    let i = c.loop-before.invariant in
    let j : ℕ = c.loop-before.before - 1 in
    let next : c.loop-before.before - 1 + 1 ≡ suc (c.loop-before.before - 1) = omega arith in
    let row : c.loop-before.before ≡ suc (c.loop-before.before - 1) = omega arith in
    let on = subst (λ j. IsOnWay g.V.Level.levels (unit_of c.args.track.now.end) c.args.limit c.args.track.now.end c.args.track.now.steps (prices_of c.args.rows.now) j c.loop-before.to) row c.loop-before.invariant.3 in
    let from = c.first_break-from.result in
    let inside = c.first_break-from.ensures.inside in
    let more : c.push.new.self.items ≡ c.loop-before.steps.items ++ ((get_or c.args.stretches.now c.first_break-from.result c.index-stretches-from.result).0.from, c.floor.result) ∷ [] = c.in_ok-push.ensures.items in
    let there = slice_get-get_or c.args.stretches.now c.first_break-from.result c.index-stretches-from.result (omega arith) in
    let start = (c.requires.stretches.stand c.first_break-from.result _ there).from in
    let column = c.costs_to.ensures.costs in
    let cost = column c.first_break-from.result inside in
    let adds_up = ap (λ k. price_in c.args.rows.now (c.loop-before.before - 1) c.first_break-from.result + k) (sym cost) ∙ (rw next at c.first_break-from.ensures.adds_up) in
    let first : (k : ℕ) → k < c.first_break-from.result → price_in c.args.rows.now (c.loop-before.before - 1) k + cost_of_step g.V.Level.levels (unit_of c.args.track.now.end) c.args.track.now k c.loop-before.to ≢ price_in c.args.rows.now (suc (c.loop-before.before - 1)) c.loop-before.to =
    λ k h e. c.first_break-from.ensures.first k h (rw next (ap (λ x. price_in c.args.rows.now (c.loop-before.before - 1) k + x) (column k (omega arith)) ∙ e)) in
    let traced = subst (λ k. IsTracedTo g.V.Level.levels (unit_of c.args.track.now.end) c.args.limit c.args.track.now.end c.args.track.now.steps (prices_of c.args.rows.now) c.fewest-count.result
    (stretch_count g.V.Level.levels (unit_of c.args.track.now.end) c.args.limit c.args.track.now.end c.args.track.now.steps) c.loop-before.steps.items k c.loop-before.to) row i.2 in
    let back = one_back g.V.Level.levels level.lawful c.args.track.now c.known.ensures.track (unit_of c.args.track.now.end) (some_unit c.args.track.now.end) c.requires.whole (breaks_for (unit_of c.args.track.now.end) c.args.track.now) c.requires.stretches.breaks c.args.limit c.args.rows.now c.requires.table
    c.fewest-count.result c.loop-before.steps.items (c.loop-before.before - 1) c.loop-before.to c.first_break-from.result _ c.least_of-least.result c.floor.result (omega arith) (omega (arith, i.1, c.requires.stretches.count))
    on traced inside adds_up first c.least_of-least.ensures start c.floor.ensures in
    (omega (arith, i.0, c.costs_to.auto.costs), omega (arith, inside, i.1), rw more back.0, back.1)

pub returns : goal.returns
returns g c =
    let level = g.met.V.Level g.world.𝓛 g.world.𝓜 g.world.𝓡 ((λ s x. x), (λ x. x), (λ x. x), λ x. x) in
    let i = c.loop-before.invariant in
    let count = c.requires.stretches.count in
    let columns : length c.args.stretches.now ≡ length (breaks_for (unit_of c.args.track.now.end) c.args.track.now) - 1 = omega arith in
    let price = rw columns at c.fewest-count.ensures.price in
    let first = rw columns at c.fewest-count.ensures.first in
    let none : c.loop-before.before ≡ 0 = omega arith in
    let traced = rw none at i.2 in
    let on = rw none at i.3 in
    rw c.reverse.ensures.items (read_off g.V.Level.levels level.lawful c.args.track.now c.known.ensures.track (unit_of c.args.track.now.end) (some_unit c.args.track.now.end) c.requires.whole (breaks_for (unit_of c.args.track.now.end) c.args.track.now) c.requires.stretches.breaks c.args.limit c.args.rows.now c.requires.table
    c.fewest-count.result c.fewest-count.ensures.some c.fewest-count.ensures.inside price first c.loop-before.steps.items c.loop-before.to traced on)
