use Rattle.std.proofs.Common.{arith, ◌∙◌, ap, sym, refl, map, take, ◌∷◌, ◌++◌, []}
use Rattle.std.proofs.lemmas.List.{take_more, take_all}
use Rattle.rbc_costs.proofs.TotalLemmas.{map_more}
use Rattle.rbc_reduce.proofs.parts.totals_of.Goals as goal

pub loop-number-init : goal.loop-number-init
loop-number-init g c = rw c.in_ok-totals.ensures.items refl

pub loop-number-preserved : goal.loop-number-preserved
loop-number-preserved g c =
    let number = g.N.Total.number in
    let index = c.loop-number.number-index in
    ap (map number) c.in_ok-push.ensures.items ∙ map_more number c.loop-number.totals.items c.of.result
    ∙ ap (λ xs. xs ++ number c.of.result ∷ []) c.loop-number.invariant ∙ ap (λ x. take index c.args.numbers.now ++ x ∷ []) c.of.ensures
    ∙ sym (take_more c.args.numbers.now index 0 (omega (arith, c.loop-number-test.true)))

pub returns : goal.returns
returns g c = c.loop-number.invariant ∙ take_all c.loop-number.number-index c.args.numbers.now (omega (arith, c.loop-number-test.false))
