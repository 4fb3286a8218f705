use Rattle.std.proofs.Common.{◌≡◌, ◌∷◌, ◌++◌, [], ◌∙◌, ap, sym, arith, length, length-append}
use Rattle.rbc_group_commit.specs.Stamps.{stamp_of}
use Rattle.rbc_group_commit.specs.declared.stamp.Stamp.{Stamp}
use Rattle.rbc_group_commit.proofs.MarkLemmas.{latest_added}
use Rattle.rbc_group_commit.proofs.marks.Marks.stamp.Goals as goal

pub invariant_of-mark : goal.invariant_of-mark
invariant_of-mark g c =
    let d = g.D.Device in
    let old = c.self.inside.seen.log in
    let s = stamp_of d.seen d.moment c.args.journal.now in
    let added : c.again.result.log ≡ old ++ s ∷ [] = ap (λ x. x.log) c.again.ensures ∙ c.advance-seen.ensures.added in (
      omega (arith, ap length added, length-append old (s ∷ []), c.self.invariant.1),
      omega arith,
      c.requires ∙ sym (ap (λ (t : Stamp). t.lines) (latest_added old c.again.result.log s added)),
      ap (λ x. x.book) c.again.ensures ∙ c.advance-seen.ensures.book ∙ c.self.invariant.2,
    )
