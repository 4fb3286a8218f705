use Rattle.std.proofs.Common.{arith}
use Rattle.rbc_track_report.proofs.ReportLemmas.{metres-next, metres-end}
use Rattle.rbc_track_report.proofs.counts.metres_in.Goals as goal

pub loop-section-preserved : goal.loop-section-preserved
loop-section-preserved c =
    let loop = c.loop-section in
    let item = c.section-item in
    let next = metres-next c.args.sections.now loop.section-index item.result c.loop-section-test.true item.is in
    record {
      whole = omega (arith, next, loop.invariant.whole, c.length.ensures);
      few = omega (arith, loop.invariant.few, c.length.ensures, c.known.ensures.metres_at_most);
    }

pub returns : goal.returns
returns c =
    let loop = c.loop-section in
    omega (arith, loop.invariant.whole, metres-end c.args.sections.now loop.section-index c.loop-section-test.false)
