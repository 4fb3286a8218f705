use Rattle.rbc_centre_examples.proofs.tests.desks.seats_are_answered_after_what_was_told.Given as goal

abbrev pub ghosts-tell_and_ask-L-DeskName : goal.ghosts-tell_and_ask-L-DeskName
ghosts-tell_and_ask-L-DeskName _ a = record { opened = a.history }

abbrev pub ghosts-tell_and_ask-L-HistoryName : goal.ghosts-tell_and_ask-L-HistoryName
ghosts-tell_and_ask-L-HistoryName _ a = record { book = a.blank.book }

abbrev pub ghosts-tell_and_ask-L-Ledger : goal.ghosts-tell_and_ask-L-Ledger
ghosts-tell_and_ask-L-Ledger _ a = record { name = a.blank.ledger.name; parts = a.blank.ledger.parts }
