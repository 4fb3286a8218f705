use Rattle.std.proofs.Common.{◌-◌, ◌≤◌}
use Rattle.rbc_journal_report.proofs.TextLemmas.{Front}
use Rattle.rbc_journal_report.proofs.telling.first_lines.Given as goal

abbrev pub invariant-loop-count : goal.invariant-loop-count
invariant-loop-count l = record {
  front : Front l.bytes l.rest l.count;
  within : l.count ≤ l.lines;
}

abbrev pub decreases-loop-count : goal.decreases-loop-count
decreases-loop-count l = l.lines - l.count
