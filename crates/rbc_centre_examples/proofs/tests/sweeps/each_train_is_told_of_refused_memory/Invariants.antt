use Rattle.rbc_centre_examples.proofs.tests.sweeps.each_train_is_told_of_refused_memory.Given as goal

abbrev pub ghosts-swept_by_two-L-DeskName : goal.ghosts-swept_by_two-L-DeskName
ghosts-swept_by_two-L-DeskName _ a = record { opened = a.history }

abbrev pub ghosts-swept_by_two-L-HistoryName : goal.ghosts-swept_by_two-L-HistoryName
ghosts-swept_by_two-L-HistoryName _ a = record { book = a.blank.book }

abbrev pub ghosts-swept_by_two-L-Ledger : goal.ghosts-swept_by_two-L-Ledger
ghosts-swept_by_two-L-Ledger _ a = record { name = a.blank.ledger.name; parts = a.blank.ledger.parts }
