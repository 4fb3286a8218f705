use Rattle.rbc_centre_examples.proofs.tests.crowds.crowded_desk_has_one_history.Given as goal

abbrev pub ghosts-crowd-L-DeskName : goal.ghosts-crowd-L-DeskName
ghosts-crowd-L-DeskName _ a = record { opened = a.history }

abbrev pub ghosts-crowd-L-HistoryName : goal.ghosts-crowd-L-HistoryName
ghosts-crowd-L-HistoryName _ a = record { book = a.blank.book }

abbrev pub ghosts-crowd-L-Ledger : goal.ghosts-crowd-L-Ledger
ghosts-crowd-L-Ledger _ a = record { name = a.blank.ledger.name; parts = a.blank.ledger.parts }
