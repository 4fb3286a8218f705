use Rattle.rbc_sweep.proofs.JobLemmas.{merges}
use Rattle.rbc_sweep.proofs.jobs.join.Goals as goal

pub absorb-requires-clause-rule : goal.absorb-requires-clause-rule
absorb-requires-clause-rule c = merges _ _ _ _
