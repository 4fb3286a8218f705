use Rattle.std.proofs.Common.{[], ◌∷◌, None, ap, ◌∙◌, refl}
use Rattle.rbc_model.specs.declared.places.Leg.{Leg}
use Rattle.rbc_model.specs.Placing.{leg_told}
use Rattle.rbc_extent.specs.PlacingSteps.{refusal_from}
use Rattle.rbc_extent.specs.Walks.{Walked}
use Rattle.rbc_extent.proofs.JudgeLemmas.{beyond-start}
use Rattle.rbc_extent.proofs.judge.refusal_of_new.Goals as goal

pub returns : goal.returns
returns c =
    let track = c.args.track.now in
    let locks = c.args.locks.now in
    let g = c.args.group.now in
    let r = c.args.report.now in
    c.refusal_from.ensures
    ∙ ap (λ (w : Walked). refusal_from w.line.track w.locks g r w.line.legs) c.alone-walk.ensures
    ∙ ap (λ (leg : Leg). refusal_from track locks g r (leg ∷ [])) c.leg_told-leg.ensures
    ∙ beyond-start track locks None r g (leg_told g r ∷ []) refl
