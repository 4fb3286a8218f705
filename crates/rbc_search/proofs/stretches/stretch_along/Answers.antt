use Rattle.std.proofs.Common.{[], ◌∷◌, ap, subst, sym, ◌∙◌}
use Rattle.rbc_model.specs.Lines.{IsLine}
use Rattle.rbc_model.specs.Tracks.{Track}
use Rattle.rbc_search.specs.Stretches.{stretches_along}
use Rattle.rbc_search.specs.declared.stretches.Stretch.{Stretch}
use Rattle.rbc_search.proofs.StretchLemmas.{along_here}
use Rattle.rbc_search.proofs.stretches.stretch_along.Goals as goal

pub returns-then-eq : goal.returns-then-eq
returns-then-eq c =
    let track = c.args.train.now.track in
    let train = c.args.train.now.train in
    let legs = c.legs-legs.result.now in
    let line : IsLine track legs = subst (IsLine track) (sym c.legs-legs.ensures.legs) (subst (λ (t : Track). IsLine t c.line-line.result.now.legs) c.line-line.ensures.track c.known.ensures.line) in
    ap (λ (s : Stretch). s ∷ []) c.stretch_of.ensures
    ∙ sym (along_here track train c.args.section c.loop-leg.begin legs c.loop-leg.leg-index c.leg-item.result c.loop-leg-test.true c.leg-item.is line (sym c.eq.ensures ∙ c.if-eq.true))
    ∙ c.loop-leg.invariant.along
    ∙ ap (stretches_along track train c.args.section 0) (c.legs-legs.ensures.legs ∙ c.line-line.ensures.legs)
