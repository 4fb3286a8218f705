use Rattle.std.proofs.Common.{arith, ◌≡◌, ◌+◌, ◌-◌, sym, ◌∙◌, get_or, subst}
use Rattle.std.proofs.lemmas.Option.{slice_get-get_or}
use Rattle.rbc_model.specs.Scales.{unit_of}
use Rattle.rbc_table_laws.specs.Breaks.{IsLowest}
use Rattle.rbc_table_laws.specs.Stretches.{breaks_for}
use Rattle.rbc_costs.proofs.NextBreakLemmas.{least_there, near, lower_in_front, kept, fallen}
use Rattle.rbc_costs.proofs.costs.least_of.Goals as goal

pub loop-i-init : goal.loop-i-init
loop-i-init g c =
    let there = slice_get-get_or c.args.stretches.now (c.args.to - 1) c.index-stretches-to.result (omega arith) in
    let next : c.args.to - 1 + 1 ≡ c.args.to = omega arith in
    let here = least_there g.V.Level.levels (unit_of c.args.track.now.end) c.args.track.now c.args.stretches.now c.requires.stretches (c.args.to - 1) _ there in
    (omega arith, rw next at here)

pub loop-i-preserved-then-not-is_at_most : goal.loop-i-preserved-then-not-is_at_most
loop-i-preserved-then-not-is_at_most g c =
    let level = g.met.V.Level g.world.𝓛 g.world.𝓜 g.world.𝓡 ((λ s x. x), (λ x. x), (λ x. x), λ x. x) in
    let there = slice_get-get_or c.args.stretches.now (c.loop-i.i - 1) c.index-stretches-i.result (omega arith) in
    let here = least_there g.V.Level.levels (unit_of c.args.track.now.end) c.args.track.now c.args.stretches.now c.requires.stretches (c.loop-i.i - 1) _ there in
    let end = near g.V.Level.levels (unit_of c.args.track.now.end) c.args.track.now c.args.stretches.now c.requires.stretches c.args.to c.requires.inside in
    let next : c.loop-i.i ≡ c.loop-i.i - 1 + 1 = omega arith in
    let before = subst (λ k. IsLowest g.V.Level.levels c.args.track.now (get_or (breaks_for (unit_of c.args.track.now.end) c.args.track.now) k 0) (get_or (breaks_for (unit_of c.args.track.now.end) c.args.track.now) c.args.to 0) c.loop-i.least) next c.loop-i.invariant.1 in
    (omega arith, lower_in_front g.V.Level.levels level.lawful c.args.track.now c.known.ensures.track _ _ _ _ c.loop-i.least _ end here before (fallen g.V.Level.levels c.loop-i.least _ (sym c.is_at_most.ensures ∙ c.if-not-is_at_most.true)))

pub loop-i-preserved : goal.loop-i-preserved
loop-i-preserved g c =
    let level = g.met.V.Level g.world.𝓛 g.world.𝓜 g.world.𝓡 ((λ s x. x), (λ x. x), (λ x. x), λ x. x) in
    let there = slice_get-get_or c.args.stretches.now (c.loop-i.i - 1) c.index-stretches-i.result (omega arith) in
    let here = least_there g.V.Level.levels (unit_of c.args.track.now.end) c.args.track.now c.args.stretches.now c.requires.stretches (c.loop-i.i - 1) _ there in
    let end = near g.V.Level.levels (unit_of c.args.track.now.end) c.args.track.now c.args.stretches.now c.requires.stretches c.args.to c.requires.inside in
    let next : c.loop-i.i ≡ c.loop-i.i - 1 + 1 = omega arith in
    let before = subst (λ k. IsLowest g.V.Level.levels c.args.track.now (get_or (breaks_for (unit_of c.args.track.now.end) c.args.track.now) k 0) (get_or (breaks_for (unit_of c.args.track.now.end) c.args.track.now) c.args.to 0) c.loop-i.least) next c.loop-i.invariant.1 in
    (omega arith, lower_in_front g.V.Level.levels level.lawful c.args.track.now c.known.ensures.track _ _ _ _ c.loop-i.least _ end here before (kept g.V.Level.levels c.loop-i.least _ (sym c.is_at_most.ensures ∙ c.if-not-is_at_most.false)))

pub returns : goal.returns
returns g c =
    let first : c.loop-i.i ≡ c.args.from = omega arith in
    subst (λ k. IsLowest g.V.Level.levels c.args.track.now (get_or (breaks_for (unit_of c.args.track.now.end) c.args.track.now) k 0) (get_or (breaks_for (unit_of c.args.track.now.end) c.args.track.now) c.args.to 0) c.loop-i.least) first c.loop-i.invariant.1
