use Rattle.rbc_part_examples.proofs.tests.group_commits.what_there_is_no_room_for_goes_in_the_next_put.Given as goal

abbrev pub ghosts-kept_by_one : goal.ghosts-kept_by_one
ghosts-kept_by_one _ a = record { book = a.blank }
