use Rattle.std.proofs.Common.{◌≡◌, ◌-◌, ◌≤◌, ◌++◌, take}
use Rattle.rbc_journal.specs.Gates.{counted}
use Rattle.rbc_journal.specs.Journal.{told_of}
use Rattle.rbc_journal.specs.Settled.{IsSettled}
use Rattle.rbc_journal_report.specs.Copying.{all_lines, begins_with}
use Rattle.rbc_journal_report.proofs.copying.add_lines.Given as goal

abbrev pub invariant-loop-count : goal.invariant-loop-count
invariant-loop-count g l =
    let seen = g.D.Device.seen in
    record {
      settled : IsSettled seen g.D.Device.may_leave l.journal;
      all : all_lines seen l.journal ++ take (l.lines - l.count) (told_of (counted l.rest)) ≡ take l.lines (told_of (counted l.text));
      begins : begins_with seen l.journal ≡ begins_with seen l.fn.journal;
      within : l.count ≤ l.lines;
    }

abbrev pub decreases-loop-count : goal.decreases-loop-count
decreases-loop-count g l = l.lines - l.count
