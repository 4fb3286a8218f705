use Rattle.rbc_part_examples.proofs.tests.group_commits.a_line_is_laid_in_vain_behind_a_failure.Given as goal

abbrev pub ghosts-laid_in_vain : goal.ghosts-laid_in_vain
ghosts-laid_in_vain _ a = record { book = a.blank }
