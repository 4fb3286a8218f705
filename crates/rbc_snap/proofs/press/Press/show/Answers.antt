use Rattle.std.proofs.Common.{sym, ◌∙◌}
use Rattle.rbc_snap.proofs.StepLemmas.{still_shown}
use Rattle.rbc_snap.proofs.press.Press.show.Goals as goal

pub invariant_of-self-2 : goal.invariant_of-self-2
invariant_of-self-2 g c =
    let kept = c.self.invariant in
    let shown = c.self.inside.writer.desk.shown.value.sight in
    let sight = c.self.inside.sight in
    let now = still_shown c.show.result shown c.show.new.writer.desk.shown.value.sight c.in_ok-issue.issue.sight sight c.show.ensures c.in_ok-issue.ensures (kept.0 ∙ sym kept.2) kept.3 in
    (now.0 ∙ kept.2, kept.1, kept.2, now.1)
