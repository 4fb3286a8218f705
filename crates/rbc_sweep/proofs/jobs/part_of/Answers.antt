use Rattle.rbc_sweep.proofs.JobLemmas.{forks}
use Rattle.rbc_sweep.proofs.jobs.part_of.Goals as goal

pub another-requires-clause-rule : goal.another-requires-clause-rule
another-requires-clause-rule c = forks _ _ c.requires.parts
