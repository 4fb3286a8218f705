use Rattle.rbc_part_examples.proofs.tests.group_commits.lines_are_kept_at_their_places.Given as goal

abbrev pub ghosts-kept_by_four : goal.ghosts-kept_by_four
ghosts-kept_by_four _ a = record { book = a.blank }
