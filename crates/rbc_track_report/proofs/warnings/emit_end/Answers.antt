use Rattle.std.proofs.Common.{not, ap, sym, ◌∙◌}
use Rattle.rbc_track_report.specs.Report.{leads_on}
use Rattle.rbc_streams.proofs.EmittingLemmas.{emits_as}
use Rattle.rbc_track_report.proofs.ReportLemmas.{is-told, end_line, leg_named}
use Rattle.rbc_track_report.proofs.warnings.emit_end.Goals as goal

pub returns : goal.returns
returns g c =
    let leg = c.args.leg.now in
    let test = not (leads_on c.args.track.now.links leg) in
    emits_as
    (ap end_line (c.of.ensures ∙ ap (leg_named leg.direction) c.name.ensures)
    ∙ sym (is-told test (end_line (leg_named leg.direction c.args.section.now.name)) (sym c.is_end.ensures ∙ c.if-not-is_end.false))) c.emit_line.ensures
