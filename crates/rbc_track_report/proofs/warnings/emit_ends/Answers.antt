use Rattle.std.proofs.Common.{sym}
use Rattle.rbc_streams.proofs.EmittingLemmas.{emits_then, emits_as}
use Rattle.rbc_track_report.proofs.ReportLemmas.{ends_text-is}
use Rattle.rbc_track_report.proofs.warnings.emit_ends.Goals as goal

pub returns : goal.returns
returns g c =
    let whole = ends_text-is c.args.track.now c.args.number c.args.section.now c.leg_along-rising.result c.leg_along-falling.result c.leg_along-rising.ensures c.leg_along-falling.ensures in
    emits_as (sym whole) (emits_then c.emit_end.ensures c.emit_end-2.ensures)
