use Rattle.std.proofs.Common.{◌++◌, ◌∷◌, [], All, ap, length, subst, sym, ◌∙◌, arith}
use Rattle.std.proofs.lemmas.List.{map-append}
use Rattle.std.proofs.lemmas.List.Elements.{All-tail}
use Rattle.std.specs.Vec.Iter.{into_iter_items}
use Rattle.rbc_snap.specs.Ends.{Watching}
use Rattle.rbc_snap.specs.Later.{IsLater}
use Rattle.rbc_desk.specs.Seats.{seated}
use Rattle.rbc_desk.proofs.desk.seats_with.Goals as goal

pub loop-eye-preserved : goal.loop-eye-preserved
loop-eye-preserved g c =
    let P : Watching → Type 0 = λ eye. IsLater g.L.DeskName.opened eye.told in
    let steps = c.in-Some.ensures.steps.0 in
    let i = c.loop-eye.invariant in (
      omega (arith, c.split_off.ensures.parts_left, i.0, ap length steps),
      omega (arith, c.split_off.ensures.amount_left, i.1),
      c.in_ok-push.ensures.items ∙ (λ k. i.2 k ++ c.new.ensures k ∷ []) ∙ sym (map-append (λ (eye : Watching). seated [] eye.told) c.loop-eye.yielded (c.in-Some.eye ∷ [])),
      All-tail P c.in-Some.eye (into_iter_items c.next.new.self) (subst (All P) steps i.3),
    )
