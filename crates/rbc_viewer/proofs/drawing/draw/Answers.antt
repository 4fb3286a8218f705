use Rattle.std.proofs.Common.{◌≡◌, ℕ, Bool, not, List, sym, subst, ap, ◌∙◌}
use Rattle.std.specs.Io.KnownBytes.{Appends}
use Rattle.rbc_model.specs.Sessions.{lines_of}
use Rattle.rbc_viewer.specs.Judged.{Judged, unjudged, behind_lines, at_end}
use Rattle.rbc_viewer.specs.Pages.{rest_of_page, DrawsAll}
use Rattle.rbc_viewer.proofs.DrawingLemmas.{is_page}
use Rattle.rbc_viewer.proofs.drawing.draw.Goals as goal

pub returns-clause-page : goal.returns-clause-page
returns-clause-page g c =
    let left = g.R.Source.left c.args.reader.now in
    let old = g.W.Sink.written c.args.writer.now in
    let drawn = g.W.Sink.written c.draw_lines.new.writer in
    let new = g.W.Sink.written c.end_page.new.writer in
    let did = c.in_ok-draw_lines.ensures.drawn in
    let last : Judged = c.close.new.self in
    let is : last ≡ at_end (behind_lines unjudged (lines_of did.0)) =
    c.in_ok-close.ensures ∙ ap at_end (did.3 ∙ ap (λ (j : Judged). behind_lines j (lines_of did.0)) c.new-judging.ensures) in
    let closes = subst (λ (v : List ℕ). Appends drawn new (rest_of_page v)) c.verdicts.ensures c.in_ok-end_page.ensures.text in
    subst (λ (r : Bool). DrawsAll (not r) left old new) (sym c.has_refused.ensures)
    (is_page left (g.R.Source.left c.draw_lines.new.reader) old (g.W.Sink.written c.begin_page.new.writer) drawn new did.0 c.in_ok-draw_lines.ensures.end did.1
    c.in_ok-begin_page.ensures.text did.2 last is closes)
