use Rattle.rbc_part_examples.proofs.tests.group_commits.a_batch_is_one_put.Given as goal

abbrev pub ghosts-kept_by_one : goal.ghosts-kept_by_one
ghosts-kept_by_one _ a = record { book = a.blank }
