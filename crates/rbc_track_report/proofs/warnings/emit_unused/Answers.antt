use Rattle.std.proofs.Common.{not, ap, sym, ◌∙◌}
use Rattle.rbc_track_report.specs.Report.{is_on_route}
use Rattle.rbc_streams.proofs.EmittingLemmas.{emits_as}
use Rattle.rbc_track_report.proofs.ReportLemmas.{is-told, unused_line}
use Rattle.rbc_track_report.proofs.warnings.emit_unused.Goals as goal

pub returns : goal.returns
returns g c =
    let test = not (is_on_route c.args.track.now.routes c.args.number) in
    emits_as
    (ap unused_line c.name.ensures ∙ sym (is-told test (unused_line c.args.section.now.name) (sym c.is_unused.ensures ∙ c.if-not-is_unused.false))) c.emit_line.ensures
