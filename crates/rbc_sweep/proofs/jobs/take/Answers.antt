use Rattle.rbc_sweep.proofs.JobLemmas.{learns, takes}
use Rattle.rbc_sweep.proofs.jobs.take.Goals as goal

pub pop_as-requires-clause-rule : goal.pop_as-requires-clause-rule
pop_as-requires-clause-rule g c = (takes _ _ c.requires.parts, learns _ _)
