use Rattle.std.proofs.Common.{ap, sym, subst, ◌∙◌}
use Rattle.rbc_logbook_laws.specs.Counts.{head_of}
use Rattle.rbc_snap.specs.declared.published.Published.{Published}
use Rattle.rbc_snap.specs.Later.{IsLater}
use Rattle.rbc_snap.specs.Sights.{SeenOf}
use Rattle.rbc_snap.proofs.LaterLemmas.{later_itself}
use Rattle.rbc_snap.proofs.press.Press.new.Goals as goal

pub invariant_of-press : goal.invariant_of-press
invariant_of-press g c =
    let log = c.args.log.now in
    let sight = c.begin-head.ensures.sight in
    let shown = ap (λ (p : Published). p.sight) c.eyes.ensures.shown ∙ c.in_ok-writer.ensures.shown in
    let book = ap (λ (s : SeenOf). s.book) sight ∙ c.requires.book in
    let itself = subst (λ (s : SeenOf). IsLater log s.history) (sym sight) (later_itself log c.right.ensures) in (
      ap (λ (s : SeenOf). s.book) shown ∙ book,
      c.begin-head.ensures.head ∙ ap head_of c.requires.book,
      book,
      subst (λ (s : SeenOf). IsLater s.history c.begin-head.result.1.history) (sym shown)
          (subst (λ (s : SeenOf). IsLater s.history c.begin-head.result.1.history) (sym sight) itself),
    )
