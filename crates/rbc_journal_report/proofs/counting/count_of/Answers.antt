use Rattle.std.proofs.Common.{arith}
use Rattle.rbc_journal.specs.Gates.{counted}
use Rattle.rbc_journal.specs.Journal.{told_of}
use Rattle.rbc_journal_report.proofs.ToldLemmas.{kind_short, count_step}
use Rattle.rbc_journal_report.proofs.counting.count_of.Goals as goal

pub overflow_add-count : goal.overflow_add-count
overflow_add-count c =
    let kind = c.args.kind.now in
    let step = count_step kind c.in-Some.line.now (told_of (counted c.loop-line.rest.now)) (told_of (counted c.in-Some.after.now)) c.is_kind.result c.one_if-count.result c.in-Some.ensures.told c.is_kind.ensures c.one_if-count.ensures in
    omega (arith, c.loop-line.invariant.all, step, kind_short kind c.args.text.now)

pub loop-line-preserved : goal.loop-line-preserved
loop-line-preserved c =
    let kind = c.args.kind.now in
    let step = count_step kind c.in-Some.line.now (told_of (counted c.loop-line.rest.now)) (told_of (counted c.in-Some.after.now)) c.is_kind.result c.one_if-count.result c.in-Some.ensures.told c.is_kind.ensures c.one_if-count.ensures in
    record { all = omega (arith, c.loop-line.invariant.all, step) }
