use Rattle.std.proofs.Common.{length}
use Rattle.rbc_streams.specs.Emitting.{Emits}
use Rattle.rbc_journal.specs.Gates.{counted}
use Rattle.rbc_journal.specs.Journal.{told_of}
use Rattle.rbc_journal_report.specs.Telling.{text_of}
use Rattle.rbc_journal_report.proofs.printing.emit_text.Given as goal

-- to print the lines that are left is to print them all
abbrev pub invariant-loop-line : goal.invariant-loop-line
invariant-loop-line g l =
    let emits = Emits g.W.Sink.written g.W.Sink.failed in
    (end : _) → emits l.writer end (text_of (told_of (counted l.rest))) → emits l.fn.writer end (text_of (told_of (counted l.text)))

abbrev pub decreases-loop-line : goal.decreases-loop-line
decreases-loop-line g l = length (told_of (counted l.rest))
