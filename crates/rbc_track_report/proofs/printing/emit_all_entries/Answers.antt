use Rattle.std.proofs.Common.{sym}
use Rattle.rbc_streams.proofs.EmittingLemmas.{emits_then, emits_as, emits_nothing}
use Rattle.rbc_track_report.specs.Report.{entry_text}
use Rattle.rbc_track_report.proofs.ReportLemmas.{texts-next, texts-end}
use Rattle.rbc_track_report.proofs.printing.emit_all_entries.Goals as goal

pub loop-route-preserved : goal.loop-route-preserved
loop-route-preserved g c =
    let loop = c.loop-route in
    let item = c.route-item in
    let next = texts-next (entry_text c.args.track.now) c.routes-routes.result.now loop.route-index item.result c.loop-route-test.true item.is in
    λ end rest. loop.invariant end (emits_as (sym next) (emits_then c.emit_entry.ensures rest))

pub returns : goal.returns
returns g c =
    let loop = c.loop-route in
    let none_left = texts-end (entry_text c.args.track.now) c.routes-routes.result.now loop.route-index c.loop-route-test.false in
    loop.invariant _ (emits_as (sym none_left) (emits_nothing _))
