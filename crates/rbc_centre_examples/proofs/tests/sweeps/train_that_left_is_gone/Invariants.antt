use Rattle.rbc_centre_examples.proofs.tests.sweeps.train_that_left_is_gone.Given as goal

abbrev pub ghosts-leaves_meanwhile-L-DeskName : goal.ghosts-leaves_meanwhile-L-DeskName
ghosts-leaves_meanwhile-L-DeskName _ a = record { opened = a.history }

abbrev pub ghosts-leaves_meanwhile-L-HistoryName : goal.ghosts-leaves_meanwhile-L-HistoryName
ghosts-leaves_meanwhile-L-HistoryName _ a = record { book = a.blank.book }

abbrev pub ghosts-leaves_meanwhile-L-Ledger : goal.ghosts-leaves_meanwhile-L-Ledger
ghosts-leaves_meanwhile-L-Ledger _ a = record { name = a.blank.ledger.name; parts = a.blank.ledger.parts }
