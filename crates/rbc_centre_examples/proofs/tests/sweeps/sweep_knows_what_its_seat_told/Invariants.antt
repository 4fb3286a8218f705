use Rattle.rbc_centre_examples.proofs.tests.sweeps.sweep_knows_what_its_seat_told.Given as goal

abbrev pub ghosts-sweeps_what_it_told-L-DeskName : goal.ghosts-sweeps_what_it_told-L-DeskName
ghosts-sweeps_what_it_told-L-DeskName _ a = record { opened = a.history }

abbrev pub ghosts-sweeps_what_it_told-L-HistoryName : goal.ghosts-sweeps_what_it_told-L-HistoryName
ghosts-sweeps_what_it_told-L-HistoryName _ a = record { book = a.blank.book }

abbrev pub ghosts-sweeps_what_it_told-L-Ledger : goal.ghosts-sweeps_what_it_told-L-Ledger
ghosts-sweeps_what_it_told-L-Ledger _ a = record { name = a.blank.ledger.name; parts = a.blank.ledger.parts }
