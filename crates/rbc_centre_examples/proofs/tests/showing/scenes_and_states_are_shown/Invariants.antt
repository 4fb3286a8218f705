use Rattle.rbc_centre_examples.proofs.tests.showing.scenes_and_states_are_shown.Given as goal

abbrev pub ghosts-tell_and_show-L-DeskName : goal.ghosts-tell_and_show-L-DeskName
ghosts-tell_and_show-L-DeskName _ a = record { opened = a.history }

abbrev pub ghosts-tell_and_show-L-HistoryName : goal.ghosts-tell_and_show-L-HistoryName
ghosts-tell_and_show-L-HistoryName _ a = record { book = a.blank.book }

abbrev pub ghosts-tell_and_show-L-Ledger : goal.ghosts-tell_and_show-L-Ledger
ghosts-tell_and_show-L-Ledger _ a = record { name = a.blank.ledger.name; parts = a.blank.ledger.parts }
