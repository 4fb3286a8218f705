use Rattle.std.proofs.Common.{◌≡◌, arith, length, nat_lt, true}
use Rattle.std.proofs.lemmas.Bool.{lt-ltb}
use Rattle.rbc_group_commit.specs.declared.line.TheConstants.{LONGEST_NOTE}
use Rattle.rbc_journal.specs.Settled.{staged_lines}
use Rattle.rbc_journaled.specs.Notes.{note_behind}
use Rattle.rbc_journaled.proofs.NoteLemmas.{line_and_note}
use Rattle.rbc_journaled.proofs.journaled_record.JournaledRecord.stage.Goals as goal

pub note-requires-clause-room : goal.note-requires-clause-room
note-requires-clause-room g c = c.stage.ensures.room LONGEST_NOTE c.requires.room

pub returns-then-version-before-clause-lines : goal.returns-then-version-before-clause-lines
returns-then-version-before-clause-lines g c =
    let now = c.args.self.now in
    let grown : nat_lt c.args.before (length now.history.entries) ≡ true = lt-ltb c.args.before (length now.history.entries) (omega (arith, c.if-version-before.true, c.version.ensures.count)) in
    rw grown
    (line_and_note (note_behind now.history.entries) (staged_lines now.journal) (staged_lines c.stage.new.self) (staged_lines c.note.new.self.journal) c.args.text.now c.stage.ensures.lines c.note.ensures.lines)
