use Rattle.std.proofs.Common.{sym}
use Rattle.rbc_streams.proofs.EmittingLemmas.{emits_then, emits_as, emits_nothing}
use Rattle.rbc_track_report.specs.Report.{unpassed_text}
use Rattle.rbc_track_report.proofs.ReportLemmas.{texts-next, texts-end}
use Rattle.rbc_track_report.proofs.printing.emit_all_unpassed.Goals as goal

pub loop-group-preserved : goal.loop-group-preserved
loop-group-preserved g c =
    let loop = c.loop-group in
    let item = c.group-item in
    let next = texts-next (unpassed_text c.args.track.now) c.groups-groups.result.now loop.group-index item.result c.loop-group-test.true item.is in
    λ end rest. loop.invariant end (emits_as (sym next) (emits_then c.emit_unpassed.ensures rest))

pub returns : goal.returns
returns g c =
    let loop = c.loop-group in
    let none_left = texts-end (unpassed_text c.args.track.now) c.groups-groups.result.now loop.group-index c.loop-group-test.false in
    loop.invariant _ (emits_as (sym none_left) (emits_nothing _))
