use Rattle.std.proofs.Common.{arith, ◌≡◌, ◌-◌, ◌∙◌, ap, sym, length, map, subst}
use Rattle.std.proofs.lemmas.List.{length-map, with_items_is}
use Rattle.rbc_model.specs.Scales.{unit_of}
use Rattle.rbc_table_laws.specs.Stretches.{cost_of_step}
use Rattle.rbc_costs.specs.Stretches.{AreCosts}
use Rattle.rbc_costs.proofs.next.costs_behind.Goals as goal

pub next_costs-requires-clause-before : goal.next_costs-requires-clause-before
next_costs-requires-clause-before g c κs within = λ i h.
    let first = ap length c.as_mut_slice.ensures.value in
    let long = c.in_ok-resize.ensures.len in
    let same = length-map c.args.before.now g.N.Total.number in
    let up : length (map g.N.Total.number c.args.before.now) ≡ length c.as_mut_slice.result.now - 1 = omega arith in
    c.requires.before i (omega arith) ∙ ap (cost_of_step g.V.Level.levels (unit_of c.args.track.now.end) c.args.track.now i) up

pub returns-clause-costs : goal.returns-clause-costs
returns-clause-costs g c =
    let long = ap length c.as_mut_slice.ensures.value in
    let kept = c.next_costs.auto.costs in
    let grown = c.in_ok-resize.ensures.len in
    let same = with_items_is c.resize.new.self c.next_costs.new.costs (omega (arith, long, kept, grown)) in
    let number = g.N.Total.number in
    subst (λ xs. AreCosts (cost_of_step g.V.Level.levels (unit_of c.args.track.now.end) c.args.track.now) (map number xs)) (sym same) (λ i h.
    let width = length-map c.next_costs.new.costs number in
    let to : length c.as_mut_slice.result.now ≡ length (map number c.next_costs.new.costs) = omega (arith, kept) in
    c.next_costs.ensures i (omega (arith, kept)) ∙ ap (cost_of_step g.V.Level.levels (unit_of c.args.track.now.end) c.args.track.now i) to)
