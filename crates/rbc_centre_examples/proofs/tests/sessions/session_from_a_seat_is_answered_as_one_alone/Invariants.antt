use Rattle.rbc_centre_examples.proofs.tests.sessions.session_from_a_seat_is_answered_as_one_alone.Given as goal

abbrev pub ghosts-is_answered_at_a_desk-L-DeskName : goal.ghosts-is_answered_at_a_desk-L-DeskName
ghosts-is_answered_at_a_desk-L-DeskName _ a = record { opened = a.history }

abbrev pub ghosts-is_answered_at_a_desk-L-HistoryName : goal.ghosts-is_answered_at_a_desk-L-HistoryName
ghosts-is_answered_at_a_desk-L-HistoryName _ a = record { book = a.blank.book }

abbrev pub ghosts-is_answered_at_a_desk-L-Ledger : goal.ghosts-is_answered_at_a_desk-L-Ledger
ghosts-is_answered_at_a_desk-L-Ledger _ a = record { name = a.blank.ledger.name; parts = a.blank.ledger.parts }
