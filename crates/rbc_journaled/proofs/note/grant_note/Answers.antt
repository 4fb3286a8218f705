use Rattle.std.proofs.Common.{rules, ◌≤◌, length, subst, sym}
use Rattle.rbc_journal.specs.Journal.{IsNote}
use Rattle.rbc_group_commit.specs.declared.line.TheConstants.{LONGEST_NOTE}
use Rattle.rbc_journaled.proofs.NoteLemmas.{note_form, note_short}
use Rattle.rbc_journaled.proofs.note.grant_note.Goals as goal

pub returns-clause-text : goal.returns-clause-text
returns-clause-text c = search rules

pub returns-clause-form : goal.returns-clause-form
returns-clause-form c =
    subst IsNote (sym (returns-clause-text c)) (note_form c.args.train c.args.version c.args.end c.ranges.train.fits c.ranges.version.fits c.ranges.end.fits)

pub returns-clause-short : goal.returns-clause-short
returns-clause-short c =
    subst (λ note. length note ≤ LONGEST_NOTE) (sym (returns-clause-text c)) (note_short c.args.train c.args.version c.args.end c.ranges.train.fits c.ranges.version.fits c.ranges.end.fits)
