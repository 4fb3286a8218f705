use Rattle.std.proofs.Common.{arith, ◌∙◌}
use Rattle.rbc_journal.proofs.LineLemmas.{more_at, line_more}
use Rattle.rbc_journal.proofs.lines.end_of_line.Goals as goal

pub loop-at-preserved : goal.loop-at-preserved
loop-at-preserved c =
    let i = c.loop-at.invariant in
    let at = c.loop-at.at in
    let bytes = c.args.bytes.now in
    record {
      read = i.read ∙ more_at bytes at c.loop-at-test.true c.if-bytes-at-eq10.false;
      line = line_more bytes at c.loop-at-test.true c.if-bytes-at-eq10.false i.line;
      within = omega (arith, c.loop-at-test.true);
    }
