use Rattle.std.proofs.Common.{not, ap, ap₂, sym, ◌∙◌}
use Rattle.rbc_track_report.specs.Report.{entered_text, entry_word, is_reached}
use Rattle.rbc_streams.proofs.EmittingLemmas.{emits_as}
use Rattle.rbc_track_report.proofs.ReportLemmas.{is-told, entered_line}
use Rattle.rbc_track_report.proofs.warnings.emit_entry.Goals as goal

pub returns : goal.returns
returns g c =
    let track = c.args.track.now in
    let route = c.args.route.now in
    let leg = c.in-Some.leg in
    let test = not (is_reached track.routes route leg) in
    let line = entered_line route.name (entry_word track leg) in
    emits_as
    (ap₂ entered_line c.name.ensures c.entry_word.ensures
    ∙ sym (ap (entered_text track route) (sym c.after.ensures ∙ c.in-Some.is) ∙ is-told test line (sym c.is_unreached.ensures ∙ c.if-not-is_unreached.false))) c.emit_line.ensures
