use Rattle.std.proofs.Common.{ap, sym, subst, ◌∙◌}
use Rattle.rbc_snap.specs.Ends.{Pressed}
use Rattle.rbc_snap.specs.Later.{IsLater}
use Rattle.rbc_snap.specs.Sights.{SeenOf}
use Rattle.rbc_snap.proofs.LaterLemmas.{later_still}
use Rattle.rbc_snap.proofs.press.Press.follow.Goals as goal

pub invariant_of-self : goal.invariant_of-self
invariant_of-self g c =
    let log = c.args.log.now in
    let kept = c.self.invariant in
    let told = c.self.inside.sight.history in
    let shown = c.self.inside.writer.desk.shown.value.sight.history in
    let goes : IsLater c.args.self.now.told log = record {
      track = c.requires.track;
      begin = c.requires.begin;
      most = c.requires.most;
      right = c.right.ensures;
      opening = c.requires.opening;
    } in
    let on : IsLater told log = subst (λ (p : Pressed). IsLater p.told log) (sym c.self.view_is) goes in (
      kept.0,
      kept.1,
      ap (λ (s : SeenOf). s.book) c.advance.ensures ∙ kept.2,
      subst (λ (s : SeenOf). IsLater shown s.history) (sym c.advance.ensures) (later_still shown told log kept.3 on),
    )
