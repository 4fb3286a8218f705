use Rattle.rbc_commands.proofs.stay_journaled.stay_journaled.Given as goal

-- the desk is named by its blank, and opened with the record that the journal tells
abbrev pub ghosts-open-L-DeskName : goal.ghosts-open-L-DeskName
ghosts-open-L-DeskName g a = record { opened = a.journaled.opening.history.history }

abbrev pub ghosts-open-L-HistoryName : goal.ghosts-open-L-HistoryName
ghosts-open-L-HistoryName g a = record { book = a.journaled.opening.blank.book }

abbrev pub ghosts-open-L-Ledger : goal.ghosts-open-L-Ledger
ghosts-open-L-Ledger g a = record { name = a.journaled.opening.blank.ledger.name; parts = a.journaled.opening.blank.ledger.parts }

-- the group commit by its stamps
abbrev pub ghosts-open-N-CommitName : goal.ghosts-open-N-CommitName
ghosts-open-N-CommitName g a = record { book = a.journaled.stamps }
