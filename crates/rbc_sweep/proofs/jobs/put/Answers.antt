use Rattle.std.proofs.Common.{arith}
use Rattle.rbc_sweep.proofs.JobLemmas.{learns, not_full, puts}
use Rattle.rbc_sweep.proofs.jobs.put.Goals as goal

pub push_as-requires-clause-rule : goal.push_as-requires-clause-rule
push_as-requires-clause-rule g c = (puts _ _ _ _ (omega arith), learns _ _)

pub unreachable-requires : goal.unreachable-requires
unreachable-requires g c =
    let held = c.in-Err.ensures.rule.2 in
    not_full _ _ held.0 c.requires.all c.requires.none c.requires.room held.1 held.2
