use Rattle.std.proofs.Common.{◌≡◌, false}
use Rattle.std.specs.Io.KnownBytes.{Appends}
use Rattle.rbc_journal.specs.Gates.{counted}
use Rattle.rbc_journal.specs.Journal.{told_of}
use Rattle.rbc_journal_report.specs.Telling.{IsText, text_of}
use Rattle.rbc_journal_report.proofs.following.follow.Given as goal

-- what was written so far is the lines that are kept
abbrev pub invariant-loop : goal.invariant-loop
invariant-loop g l =
    (goal.iterator-loop g).can_next l.iterator' × (goal.iterator-loop g).is_finite l.iterator'
    × (g.W.Sink.failed l.writer ≡ false) × IsText l.follower.shown.items
    × Appends (g.W.Sink.written l.initial.writer) (g.W.Sink.written l.writer) (text_of (told_of (counted l.follower.shown.items)))
