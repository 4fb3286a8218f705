use Rattle.std.proofs.Common.{arith, length, ap}
use Rattle.rbc_journal_report.proofs.ToldLemmas.{told_short}
use Rattle.rbc_journal_report.proofs.counting.count.Goals as goal

pub overflow_add-count : goal.overflow_add-count
overflow_add-count c = omega (arith, c.loop-after.invariant.all, ap length c.in-Some.ensures.told, told_short c.args.text.now)
