use Rattle.std.proofs.Common.{arith, length-set, ◌≡◌, ℕ, ◌-◌, ◌<◌, Some, ap, sym, ◌∙◌, length, get_or, subst}
use Rattle.std.proofs.lemmas.Option.{slice_get-get_or}
use Rattle.rbc_model.specs.Scales.{unit_of}
use Rattle.rbc_table_laws.specs.Breaks.{IsLowest}
use Rattle.rbc_table_laws.specs.Stretches.{breaks_for, cost_of_step}
use Rattle.rbc_stretches.specs.OnTracks.{IsStretch}
use Rattle.rbc_costs.specs.Stretches.{IsLostByFloor}
use Rattle.rbc_costs.proofs.NextBreakLemmas.{ends_at, cost_of_floor, written_more, small_more}
use Rattle.rbc_costs.proofs.costs.costs_to.Given.{Over}
use Rattle.rbc_costs.proofs.costs.costs_to.Goals as goal
use Rattle.rbc_costs.proofs.costs.costs_to.Goals.{After-index-stretches-i}

-- ---- the last stretch

pub loop-i-init : goal.loop-i-init
loop-i-init g c =
    let level = g.met.V.Level g.world.𝓛 g.world.𝓜 g.world.𝓡 ((λ s x. x), (λ x. x), (λ x. x), λ x. x) in
    let lowest = c.last_before-least.ensures.least in
    let by = c.last_before-least.ensures.lost in
    let bound = by.bound in
    let cost = cost_of_floor g.V.Level.levels (unit_of c.args.track.now.end) c.args.track.now c.args.stretches.now c.requires.stretches level.lawful c.known.ensures.track (c.args.to - 1) c.args.to c.requires.inside _ _ lowest by in (
      lowest,
      by,
      written_more c.args.costs.now (c.args.to - 1) c.args.to _ (λ k. cost_of_step g.V.Level.levels (unit_of c.args.track.now.end) c.args.track.now k c.args.to) (omega arith) cost (λ k low high. absurd (omega arith)),
      small_more c.args.costs.now (c.args.to - 1) c.args.to _ _ (omega arith) (omega arith) (λ k low high. absurd (omega arith)),
    )

-- ---- one stretch more

front_stands : (g : Over) (c : After-index-stretches-i g) → IsStretch (unit_of c.args.track.now.end) c.args.track.now (c.loop-i.i - 1) c.index-stretches-i.result.0
front_stands g c = c.requires.stretches.stand (c.loop-i.i - 1) _ (slice_get-get_or c.args.stretches.now (c.loop-i.i - 1) c.index-stretches-i.result (omega arith) ∙ ap Some (sym c.index-stretches-i.is))

-- it ends where the step began
front_to : (g : Over) (c : After-index-stretches-i g) → c.index-stretches-i.result.0.to ≡ (get_or (breaks_for (unit_of c.args.track.now.end) c.args.track.now) c.loop-i.i 0)
front_to g c = ends_at (unit_of c.args.track.now.end) c.args.track.now c.loop-i.i c.index-stretches-i.result.0 (omega arith) (front_stands g c)

-- and the step ends where the last stretch does
last_to : (g : Over) (c : After-index-stretches-i g) → c.last_before-least.result.stretch.to ≡ (get_or (breaks_for (unit_of c.args.track.now.end) c.args.track.now) c.args.to 0)
last_to g c = ends_at (unit_of c.args.track.now.end) c.args.track.now c.args.to c.last_before-least.result.stretch (omega arith) c.last_before-least.ensures.stretch

pub further-lowest-requires-clause-on_track : goal.further-lowest-requires-clause-on_track
further-lowest-requires-clause-on_track g c κs within = (front_stands g (goal.at.further-lowest-requires-clause-on_track g c).After-index-stretches-i).on_track

pub further-lowest-requires-clause-inside : goal.further-lowest-requires-clause-inside
further-lowest-requires-clause-inside g c κs within = c.last_before-least.ensures.stretch.on_track.inside

pub further-lowest-requires-clause-front : goal.further-lowest-requires-clause-front
further-lowest-requires-clause-front g c κs within =
    c.requires.stretches.least (c.loop-i.i - 1) _ (slice_get-get_or c.args.stretches.now (c.loop-i.i - 1) c.index-stretches-i.result (omega arith) ∙ ap Some (sym c.index-stretches-i.is))

pub further-lowest-requires-clause-least : goal.further-lowest-requires-clause-least
further-lowest-requires-clause-least g c κs within =
    let at = goal.at.further-lowest-requires-clause-least g c in
    let from = subst (λ k. IsLowest g.V.Level.levels c.args.track.now k (get_or (breaks_for (unit_of c.args.track.now.end) c.args.track.now) c.args.to 0) c.loop-i.least) (sym (front_to g at.After-index-stretches-i)) c.loop-i.invariant.0 in
    subst (λ k. IsLowest g.V.Level.levels c.args.track.now c.index-stretches-i.result.0.to k c.loop-i.least) (sym (last_to g at.After-index-stretches-i)) from

pub further-lowest-requires-clause-lost : goal.further-lowest-requires-clause-lost
further-lowest-requires-clause-lost g c κs within =
    let at = goal.at.further-lowest-requires-clause-lost g c in
    let from = subst (λ k. IsLostByFloor g.V.Level.levels c.args.track.now k (get_or (breaks_for (unit_of c.args.track.now.end) c.args.track.now) c.args.to 0) c.loop-i.least c.loop-i.lost) (sym (front_to g at.After-index-stretches-i)) c.loop-i.invariant.1 in
    subst (λ k. IsLostByFloor g.V.Level.levels c.args.track.now c.index-stretches-i.result.0.to k c.loop-i.least c.loop-i.lost) (sym (last_to g at.After-index-stretches-i)) from

pub loop-i-preserved : goal.loop-i-preserved
loop-i-preserved g c =
    let level = g.met.V.Level g.world.𝓛 g.world.𝓜 g.world.𝓡 ((λ s x. x), (λ x. x), (λ x. x), λ x. x) in
    let at = goal.at.loop-i-preserved g c in
    let i = c.loop-i.invariant in
    let front = front_stands g at.After-index-stretches-i in
    let last = last_to g at.After-index-stretches-i in
    let lowest_from = subst (λ k. IsLowest g.V.Level.levels c.args.track.now k c.last_before-least.result.stretch.to c.further-lowest.result.0) front.from c.further-lowest.ensures.least in
    let lowest = subst (λ k. IsLowest g.V.Level.levels c.args.track.now (get_or (breaks_for (unit_of c.args.track.now.end) c.args.track.now) (c.loop-i.i - 1) 0) k c.further-lowest.result.0) last lowest_from in
    let lost_from = subst (λ k. IsLostByFloor g.V.Level.levels c.args.track.now k c.last_before-least.result.stretch.to c.further-lowest.result.0 c.further-lowest.result.1) front.from c.further-lowest.ensures.lost in
    let lost = subst (λ k. IsLostByFloor g.V.Level.levels c.args.track.now (get_or (breaks_for (unit_of c.args.track.now.end) c.args.track.now) (c.loop-i.i - 1) 0) k c.further-lowest.result.0 c.further-lowest.result.1) last lost_from in
    let bound = lost.bound in
    let room : c.loop-i.i - 1 < length c.loop-i.costs = omega (arith, length-set {A = ℕ}) in
    let cost = cost_of_floor g.V.Level.levels (unit_of c.args.track.now.end) c.args.track.now c.args.stretches.now c.requires.stretches level.lawful c.known.ensures.track (c.loop-i.i - 1) c.args.to c.requires.inside _ _ lowest lost in (
      lowest,
      lost,
      written_more c.loop-i.costs (c.loop-i.i - 1) c.args.to _ (λ k. cost_of_step g.V.Level.levels (unit_of c.args.track.now.end) c.args.track.now k c.args.to) room cost (λ k low high. i.2 k (omega arith) high),
      small_more c.loop-i.costs (c.loop-i.i - 1) c.args.to _ _ room (omega arith) (λ k low high. i.3 k (omega arith) high),
    )
