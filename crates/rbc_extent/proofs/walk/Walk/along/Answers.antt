use Rattle.std.proofs.Common.{◌≡◌, ◌-◌, ◌++◌, [], ◌∷◌, length, take, ap, sym, ◌∙◌, subst}
use Rattle.rbc_model.specs.Tracks.{Track}
use Rattle.rbc_model.specs.Lines.{Line}
use Rattle.rbc_extent.specs.Walks.{IsWalk, Walked}
use Rattle.rbc_extent.proofs.WalkLemmas.{but_last, walk-along}
use Rattle.rbc_extent.proofs.walk.Walk.along.Goals as goal

pub invariant_of-result : goal.invariant_of-result
invariant_of-result c =
    let track : c.deref.result.now ≡ c.args.line.now.track = c.deref.ensures ∙ c.track.ensures.track in
    let P : Track → Line → Type 0 = λ t l. IsWalk t c.args.locks.now (take (length l - 1) l) c.last.result 0 0 c.first.result c.last-2.result c.length.result in
    subst (λ (t : Track). P t c.legs-legs.result.now) (sym track)
    (subst (P c.args.line.now.track) (sym c.legs-legs.ensures.legs)
    (walk-along c.args.line.now.track c.args.locks.now c.args.line.now.legs c.first.result c.last.result c.last-2.result c.length.result c.known.ensures.form c.known.ensures.sound c.requires c.known.ensures.line c.first.ensures.leg c.last.ensures.leg c.last-2.ensures.leg c.length.ensures.length))

pub returns : goal.returns
returns c =
    let track : c.deref.result.now ≡ c.args.line.now.track = c.deref.ensures ∙ c.track.ensures.track in
    let V : Track → Line → Walked = λ t l. record { line = record { track = t; legs = l }; locks = c.args.locks.now; behind = 0 } in
    let legs : take (length c.legs-legs.result.now - 1) c.legs-legs.result.now ++ c.last.result ∷ [] ≡ c.args.line.now.legs =
    ap (λ (l : Line). take (length l - 1) l ++ c.last.result ∷ []) c.legs-legs.ensures.legs ∙ but_last c.args.line.now.legs c.last.result c.last.ensures.leg in
    ap (λ (t : Track). V t (take (length c.legs-legs.result.now - 1) c.legs-legs.result.now ++ c.last.result ∷ [])) track ∙ ap (V c.args.line.now.track) legs
