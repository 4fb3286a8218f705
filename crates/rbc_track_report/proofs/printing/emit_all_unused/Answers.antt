use Rattle.std.proofs.Common.{sym}
use Rattle.rbc_streams.proofs.EmittingLemmas.{emits_then, emits_as, emits_nothing}
use Rattle.rbc_track_report.specs.Report.{unused_text}
use Rattle.rbc_track_report.proofs.ReportLemmas.{each-next, each-end}
use Rattle.rbc_track_report.proofs.printing.emit_all_unused.Goals as goal

pub loop-number-preserved : goal.loop-number-preserved
loop-number-preserved g c =
    let loop = c.loop-number in
    let item = c.index-sections-number in
    let next = each-next (unused_text c.args.track.now) c.sections-sections.result.now loop.number item.result c.loop-number-test.true item.is in
    λ end rest. loop.invariant end (emits_as (sym next) (emits_then c.emit_unused.ensures rest))

pub returns : goal.returns
returns g c =
    let loop = c.loop-number in
    let none_left = each-end (unused_text c.args.track.now) c.sections-sections.result.now loop.number c.loop-number-test.false in
    loop.invariant _ (emits_as (sym none_left) (emits_nothing _))
