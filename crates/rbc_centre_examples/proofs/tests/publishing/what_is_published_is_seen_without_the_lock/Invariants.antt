use Rattle.rbc_centre_examples.proofs.tests.publishing.what_is_published_is_seen_without_the_lock.Given as goal

abbrev pub ghosts-ask_without_the_lock-L-DeskName : goal.ghosts-ask_without_the_lock-L-DeskName
ghosts-ask_without_the_lock-L-DeskName _ a = record { opened = a.history }

abbrev pub ghosts-ask_without_the_lock-L-HistoryName : goal.ghosts-ask_without_the_lock-L-HistoryName
ghosts-ask_without_the_lock-L-HistoryName _ a = record { book = a.blank.book }

abbrev pub ghosts-ask_without_the_lock-L-Ledger : goal.ghosts-ask_without_the_lock-L-Ledger
ghosts-ask_without_the_lock-L-Ledger _ a = record { name = a.blank.ledger.name; parts = a.blank.ledger.parts }
