use Rattle.rbc_centre_examples.proofs.tests.desks.work_goes_on_outside_the_lock.Given as goal

abbrev pub ghosts-work_goes_on-L-DeskName : goal.ghosts-work_goes_on-L-DeskName
ghosts-work_goes_on-L-DeskName _ a = record { opened = a.history }

abbrev pub ghosts-work_goes_on-L-HistoryName : goal.ghosts-work_goes_on-L-HistoryName
ghosts-work_goes_on-L-HistoryName _ a = record { book = a.blank.book }

abbrev pub ghosts-work_goes_on-L-Ledger : goal.ghosts-work_goes_on-L-Ledger
ghosts-work_goes_on-L-Ledger _ a = record { name = a.blank.ledger.name; parts = a.blank.ledger.parts }
