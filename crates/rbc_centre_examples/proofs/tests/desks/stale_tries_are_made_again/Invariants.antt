use Rattle.rbc_centre_examples.proofs.tests.desks.stale_tries_are_made_again.Given as goal

abbrev pub ghosts-overtake-L-DeskName : goal.ghosts-overtake-L-DeskName
ghosts-overtake-L-DeskName _ a = record { opened = a.history }

abbrev pub ghosts-overtake-L-HistoryName : goal.ghosts-overtake-L-HistoryName
ghosts-overtake-L-HistoryName _ a = record { book = a.blank.book }

abbrev pub ghosts-overtake-L-Ledger : goal.ghosts-overtake-L-Ledger
ghosts-overtake-L-Ledger _ a = record { name = a.blank.ledger.name; parts = a.blank.ledger.parts }
