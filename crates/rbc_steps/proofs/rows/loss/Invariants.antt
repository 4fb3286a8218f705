use Rattle.std.proofs.Common.{◌≡◌, ◌≤◌, ◌*◌, ◌-◌}
use Rattle.rbc_model.specs.Profiles.{value_at, loss}
use Rattle.rbc_steps.proofs.StretchLemmas.{Holds}
use Rattle.rbc_steps.proofs.rows.loss.Given as goal

abbrev pub invariant-loop-from : goal.invariant-loop-from
invariant-loop-from g l = record {
  run : Holds l.end l.runs l.run l.from;
  step : Holds l.end l.steps l.step l.from;
  near : l.from ≤ l.end;
  sum : l.sum ≡ loss g.V.Level.levels l.from (value_at l.runs) l.steps;
  small : l.sum ≤ l.from * 1000000;
}

abbrev pub decreases-loop-from : goal.decreases-loop-from
decreases-loop-from g l = l.end - l.from
