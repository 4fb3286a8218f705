use Rattle.std.proofs.Common.{arith, ◌≡◌, ◌∙◌, ap, sym, length, get_or, map}
use Rattle.std.proofs.lemmas.List.{with_items_is}
use Rattle.rbc_model.specs.Scales.{unit_of}
use Rattle.rbc_table_laws.specs.Stretches.{cost_of_step}
use Rattle.rbc_reduce.proofs.parts.totals_to.Goals as goal

pub returns-clause-costs : goal.returns-clause-costs
returns-clause-costs g c = λ i h.
    let long = ap length c.as_mut_slice.ensures.value in
    let kept = c.costs_to.auto.costs in
    let same = c.in_ok-totals_of.ensures ∙ c.deref.ensures.value ∙ with_items_is c.in_ok-costs.costs c.costs_to.new.costs (omega (arith, long, kept)) in
    let count = ap length same in
    let to : length (map g.N.Total.number c.in_ok-totals_of.field-0.items) ≡ c.args.to = omega (arith, count, long, kept, c.in_ok-costs.ensures.len) in
    ap (λ xs. get_or xs i 0) same ∙ c.costs_to.ensures.costs i (omega (arith, h, to)) ∙ ap (cost_of_step g.V.Level.levels (unit_of c.args.track.now.end) c.args.track.now i) (sym to)
