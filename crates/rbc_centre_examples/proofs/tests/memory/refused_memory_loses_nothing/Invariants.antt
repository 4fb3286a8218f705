use Rattle.rbc_centre_examples.proofs.tests.memory.refused_memory_loses_nothing.Given as goal

abbrev pub ghosts-are_granted-L-DeskName : goal.ghosts-are_granted-L-DeskName
ghosts-are_granted-L-DeskName _ a = record { opened = a.history }

abbrev pub ghosts-are_granted-L-HistoryName : goal.ghosts-are_granted-L-HistoryName
ghosts-are_granted-L-HistoryName _ a = record { book = a.blank.book }

abbrev pub ghosts-are_granted-L-Ledger : goal.ghosts-are_granted-L-Ledger
ghosts-are_granted-L-Ledger _ a = record { name = a.blank.ledger.name; parts = a.blank.ledger.parts }
