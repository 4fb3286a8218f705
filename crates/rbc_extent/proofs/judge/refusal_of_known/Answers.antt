use Rattle.std.proofs.Common.{◌≡◌, ◌+◌, length, Option, Some, ap, sym, ◌∙◌, subst}
use Rattle.rbc_model.specs.Tracks.{Track, metres_of}
use Rattle.rbc_model.specs.declared.places.Leg.{Leg}
use Rattle.rbc_model.specs.Lines.{has_leg, metres_to_group}
use Rattle.rbc_model.specs.Locks.{Locks, longer_ahead, lengthened}
use Rattle.rbc_model.specs.Placing.{leg_told, located}
use Rattle.rbc_scene_laws.proofs.LengtheningLemmas.{lengthened-now}
use Rattle.rbc_model.specs.Lines.{Line}
use Rattle.rbc_extent.specs.PlacingSteps.{refusal_from}
use Rattle.rbc_extent.specs.Walks.{Walked}
use Rattle.rbc_extent.proofs.CoveringLemmas.{flag-none, flag-some}
use Rattle.rbc_extent.proofs.JudgeLemmas.{beyond-start, beyond-lost, beyond-last, has-last}
use Rattle.rbc_extent.proofs.judge.refusal_of_known.Goals as goal

-- the line continued to the leg
abbrev on_to : Leg → Walked → Option Line
on_to leg w = lengthened (length w.line.track.sections) (longer_ahead w.locks) (λ l. has_leg l leg) w.line.legs

pub returns-then-has_leg : goal.returns-then-has_leg
returns-then-has_leg c =
    let line = c.args.line.now in
    let locks = c.args.locks.now in
    let g = c.args.group.now in
    let r = c.args.report.now in
    c.refusal_from.ensures
    ∙ ap (λ (w : Walked). refusal_from w.line.track w.locks g r w.line.legs) c.along-walk.ensures
    ∙ beyond-start line.track locks (Some line.legs) r g line.legs
    (lengthened-now (length line.track.sections) (longer_ahead locks) (λ l. has_leg l (leg_told g r)) line.legs (ap (has_leg line.legs) (sym c.leg_told-leg.ensures) ∙ sym c.has_leg.ensures ∙ c.if-has_leg.true))

pub returns-then-not-goes_to : goal.returns-then-not-goes_to
returns-then-not-goes_to c =
    let line = c.args.line.now in
    let locks = c.args.locks.now in
    let g = c.args.group.now in
    let r = c.args.report.now in
    let there : on_to c.leg_told-leg.result c.along-walk.result ≡ located line.track locks (leg_told g r) (Some line.legs) =
    ap (on_to c.leg_told-leg.result) c.along-walk.ensures ∙ ap (λ (leg : Leg). located line.track locks leg (Some line.legs)) c.leg_told-leg.ensures in
    beyond-lost line.track locks (Some line.legs) r g (flag-none c.goes_to.result c.goes_to.new.walk.line.legs (on_to c.leg_told-leg.result c.along-walk.result) c.goes_to.ensures.there c.if-not-goes_to.true ∙ there)

pub refusal_from-requires-2-clause-told : goal.refusal_from-requires-2-clause-told
refusal_from-requires-2-clause-told c =
    let g = c.args.group.now in
    let r = c.args.report.now in
    let legs = c.goes_to.new.walk.line.legs in
    ap (has_leg legs) (sym c.leg_told-leg.ensures) ∙ has-last c.args.line.now.track g r 0 legs c.leg_told-leg.result (c.goes_to.ensures.last c.if-not-goes_to.false)

pub refusal_from-requires-2-clause-beyond : goal.refusal_from-requires-2-clause-beyond
refusal_from-requires-2-clause-beyond c =
    let g = c.args.group.now in
    let n = c.goes_to.new.walk in
    let leg = c.leg_told-leg.result in
    let track : c.deref.result.now ≡ n.line.track = c.deref.ensures ∙ c.track.ensures.track ∙ sym (c.goes_to.ensures.way.track ∙ ap (λ (w : Walked). w.line.track) c.along-walk.ensures) in
    beyond-last n.line.track g c.args.report.now c.metres_beyond-beyond.result n.line.legs leg c.leg_told-leg.ensures (c.goes_to.ensures.last c.if-not-goes_to.false) (c.goes_to.ensures.line c.if-not-goes_to.false)
    (subst (λ (t : Track). metres_to_group t g leg + c.metres_beyond-beyond.result ≡ metres_of t leg.section) track c.metres_beyond-beyond.ensures)

pub returns : goal.returns
returns c =
    let line = c.args.line.now in
    let locks = c.args.locks.now in
    let g = c.args.group.now in
    let r = c.args.report.now in
    let n = c.goes_to.new.walk in
    let there : on_to c.leg_told-leg.result c.along-walk.result ≡ located line.track locks (leg_told g r) (Some line.legs) =
    ap (on_to c.leg_told-leg.result) c.along-walk.ensures ∙ ap (λ (leg : Leg). located line.track locks leg (Some line.legs)) c.leg_told-leg.ensures in
    let track : n.line.track ≡ line.track = c.goes_to.ensures.way.track ∙ ap (λ (w : Walked). w.line.track) c.along-walk.ensures in
    let same : n.locks ≡ locks = c.goes_to.ensures.way.locks ∙ ap (λ (w : Walked). w.locks) c.along-walk.ensures in
    c.refusal_from-2.ensures
    ∙ ap (λ (t : Track). refusal_from t n.locks g r n.line.legs) track
    ∙ ap (λ (k : Locks). refusal_from line.track k g r n.line.legs) same
    ∙ beyond-start line.track locks (Some line.legs) r g n.line.legs (sym (flag-some c.goes_to.result n.line.legs (on_to c.leg_told-leg.result c.along-walk.result) c.goes_to.ensures.there c.if-not-goes_to.false ∙ there))
