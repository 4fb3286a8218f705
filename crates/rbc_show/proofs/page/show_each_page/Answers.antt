use Rattle.std.proofs.Common.{◌∙◌, ap, sym, subst}
use Rattle.std.specs.Io.KnownBytes.{Appends}
use Rattle.rbc_show.proofs.PageLemmas.{is_each_page, where_shown}
use Rattle.rbc_show.proofs.WritingLemmas.{whole_text}
use Rattle.rbc_viewer.specs.declared.viewer.TheConstants.{BEFORE_TEXT}
use Rattle.rbc_show.proofs.page.show_each_page.Goals as goal

pub returns-clause-shown : goal.returns-clause-shown
returns-clause-shown g c =
    let begun = whole_text _ _ _ c.begin_page.result (sym c.is_err.ensures.value ∙ c.if-is_err.false) c.begin_page.ensures.text in
    let opens = subst (λ w. Appends (g.W.Sink.written c.args.writer) (g.W.Sink.written w) BEFORE_TEXT.now) (sym c.new-page.ensures.start) begun in
    where_shown c.close.result.1 c.show_each-shown.result _ _ _ _
    c.close.ensures.shown c.show_each-shown.ensures.going c.show_each-shown.ensures.shown c.close.ensures.text
    (λ going shown closes. is_each_page _ _ _ _ _ _ _ _ _ c.new-page.ensures.nothing opens
    (c.into_writer.ensures.text (ap g.W.Sink.failed c.into_writer.ensures.writer ∙ going)) closes shown)
