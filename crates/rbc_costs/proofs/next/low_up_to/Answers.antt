use Rattle.std.proofs.Common.{arith, ◌≡◌, ◌+◌, ◌-◌, ℕ, Some, ap, sym, ◌∙◌, get_or, subst}
use Rattle.std.specs.List.{slice_get}
use Rattle.std.proofs.lemmas.Option.{slice_get-get_or}
use Rattle.rbc_model.specs.Scales.{unit_of}
use Rattle.rbc_table_laws.specs.Breaks.{IsLowest}
use Rattle.rbc_table_laws.specs.Stretches.{breaks_for}
use Rattle.rbc_stretches.specs.declared.stretch.Stretch.{Stretch}
use Rattle.rbc_costs.proofs.NextBreakLemmas.{kept, least_there, lower_in_front, near}
use Rattle.rbc_costs.proofs.LowFromLemmas.{one_there}
use Rattle.rbc_costs.proofs.next.low_up_to.Given.{Over}
use Rattle.rbc_costs.proofs.next.low_up_to.Goals as goal
use Rattle.rbc_costs.proofs.next.low_up_to.Goals.{After-index-stretches-stretch, After-is_at_most}

abbrev stretch : (g : Over) → After-index-stretches-stretch g → Stretch × g.row.V.Denot
stretch g c = get_or c.args.stretches.now c.args.stretch c.index-stretches-stretch.result

there : (g : Over) (c : After-index-stretches-stretch g) → slice_get c.args.stretches.now c.args.stretch ≡ Some (stretch g c)
there g c = slice_get-get_or c.args.stretches.now c.args.stretch c.index-stretches-stretch.result c.requires.inside

abbrev front : (g : Over) → After-is_at_most g → Stretch × g.row.V.Denot
front g c = get_or c.args.stretches.now (c.loop-first.first - 1) c.index-stretches-first.result

before : (g : Over) (c : After-is_at_most g) → slice_get c.args.stretches.now (c.loop-first.first - 1) ≡ Some (front g c)
before g c =
    let inside = c.loop-first.invariant.inside in
    slice_get-get_or c.args.stretches.now (c.loop-first.first - 1) c.index-stretches-first.result (omega (arith, c.requires.inside))

-- whether the stretch is no higher than the one in front
test : (g : Over) (c : After-is_at_most g) → c.is_at_most.result ≡ g.V.Level.levels.at_most (get_or c.args.stretches.now c.args.stretch c.index-stretches-stretch.result).1 (front g c).1
test g c = c.is_at_most.ensures

-- the least value up to the stretch, told of any that stands there
lowest_of : (g : Over) (c : After-index-stretches-stretch g) (first : ℕ)
    → IsLowest g.V.Level.levels c.args.track.now (get_or (breaks_for (unit_of c.args.track.now.end) c.args.track.now) first 0) (get_or (breaks_for (unit_of c.args.track.now.end) c.args.track.now) (c.args.stretch + 1) 0) (stretch g c).1
    → (s : Stretch × g.row.V.Denot) → slice_get c.args.stretches.now c.args.stretch ≡ Some s
    → IsLowest g.V.Level.levels c.args.track.now (get_or (breaks_for (unit_of c.args.track.now.end) c.args.track.now) first 0) (get_or (breaks_for (unit_of c.args.track.now.end) c.args.track.now) (c.args.stretch + 1) 0) s.1
lowest_of g c first l s here = subst (λ t. IsLowest g.V.Level.levels c.args.track.now (get_or (breaks_for (unit_of c.args.track.now.end) c.args.track.now) first 0) (get_or (breaks_for (unit_of c.args.track.now.end) c.args.track.now) (c.args.stretch + 1) 0) t.1) (one_there c.args.stretches.now c.args.stretch _ _ (there g c) here) l

pub loop-first-init : goal.loop-first-init
loop-first-init g c = record {
  inside = omega arith;
  lowest = least_there g.V.Level.levels (unit_of c.args.track.now.end) c.args.track.now c.args.stretches.now c.requires.stretches c.args.stretch _ (there g (goal.at.loop-first-init g c).After-index-stretches-stretch);
}

pub returns-then-not-is_at_most : goal.returns-then-not-is_at_most
returns-then-not-is_at_most g c =
    let at = goal.at.returns-then-not-is_at_most g c in
    record {
      inside = c.loop-first.invariant.inside;
      lowest = lowest_of g at.After-index-stretches-stretch c.loop-first.first c.loop-first.invariant.lowest;
      lower = λ s t here i e next.
          let place : c.loop-first.first - 1 ≡ i = omega arith in
          let one = one_there c.args.stretches.now c.args.stretch _ _ (there g at.After-index-stretches-stretch) here in
          let two = one_there c.args.stretches.now i _ _ (subst (λ k. slice_get c.args.stretches.now k ≡ Some (front g at.After-is_at_most)) place (before g at.After-is_at_most)) next in
          sym (ap (λ a. g.V.Level.levels.at_most a.1 t.1) one) ∙ sym (ap (λ b. g.V.Level.levels.at_most (stretch g at.After-index-stretches-stretch).1 b.1) two) ∙ sym (test g at.After-is_at_most) ∙ c.if-not-is_at_most.true;
    }

pub loop-first-preserved : goal.loop-first-preserved
loop-first-preserved g c =
    let level = g.met.V.Level g.world.𝓛 g.world.𝓜 g.world.𝓡 ((λ s x. x), (λ x. x), (λ x. x), λ x. x) in
    let at = goal.at.loop-first-preserved g c in
    let i = c.loop-first.invariant in
    let inside = i.inside in
    let low = c.requires.firsts (c.loop-first.first - 1) (omega arith) in
    let up = low.inside in
    let next : c.loop-first.first - 1 + 1 ≡ c.loop-first.first = omega arith in
    let behind = subst (λ k. IsLowest g.V.Level.levels c.args.track.now (get_or (breaks_for (unit_of c.args.track.now.end) c.args.track.now) (get_or c.args.firsts.now (c.loop-first.first - 1) 0) 0) (get_or (breaks_for (unit_of c.args.track.now.end) c.args.track.now) k 0) (front g at.After-is_at_most).1) next (low.lowest _ (before g at.After-is_at_most)) in
    let end = near g.V.Level.levels (unit_of c.args.track.now.end) c.args.track.now c.args.stretches.now c.requires.stretches (c.args.stretch + 1) (omega (arith, c.requires.inside)) in
    record {
      inside = omega arith;
      lowest = lower_in_front g.V.Level.levels level.lawful c.args.track.now c.known.ensures.track _ _ _ _ (stretch g at.After-index-stretches-stretch).1 _ end behind i.lowest
          (kept g.V.Level.levels (stretch g at.After-index-stretches-stretch).1 _ (sym (test g at.After-is_at_most) ∙ c.if-not-is_at_most.false));
    }

pub returns : goal.returns
returns g c = record {
  inside = c.loop-first.invariant.inside;
  lowest = lowest_of g (goal.at.returns g c).After-index-stretches-stretch c.loop-first.first c.loop-first.invariant.lowest;
  lower = λ s t here i e next. absurd (omega (arith, c.loop-first-test.false, e));
}
