use Rattle.rbc_commands.proofs.serve.serve.Given as goal

-- the desk is named by its blank, and opened with the record
abbrev pub ghosts-open-L-DeskName : goal.ghosts-open-L-DeskName
ghosts-open-L-DeskName g a = record { opened = a.opening.history }

abbrev pub ghosts-open-L-HistoryName : goal.ghosts-open-L-HistoryName
ghosts-open-L-HistoryName g a = record { book = a.opening.blank.book }

abbrev pub ghosts-open-L-Ledger : goal.ghosts-open-L-Ledger
ghosts-open-L-Ledger g a = record { name = a.opening.blank.ledger.name; parts = a.opening.blank.ledger.parts }
