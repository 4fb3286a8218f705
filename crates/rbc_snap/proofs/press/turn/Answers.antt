use Rattle.std.proofs.Common.{◌≤◌, length, ap, ◌∙◌, sym, subst}
use Rattle.rbc_snap.specs.Sights.{SeenOf}
use Rattle.rbc_snap.proofs.StepLemmas.{sees}
use Rattle.rbc_snap.proofs.press.turn.Goals as goal

pub publish_as-writer-requires : goal.publish_as-writer-requires
publish_as-writer-requires g c next is =
    let now = c.args.writer.desk.shown.value in
    let P : SeenOf → Type 0 = λ s. length now.sight.history.entries ≤ length s.history.entries in
    sees _ _ now next (c.requires.book ∙ sym (ap (λ (s : SeenOf). s.book) is)) (subst P (sym is) c.requires.later)
