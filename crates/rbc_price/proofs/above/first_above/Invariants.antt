use Rattle.std.proofs.Common.{◌≤◌, ◌-◌}
use Rattle.rbc_steps.proofs.StretchLemmas.{Holds}
use Rattle.rbc_price.specs.Metres.{AreWithin}
use Rattle.rbc_price.proofs.above.first_above.Given as goal

abbrev pub invariant-loop-from : goal.invariant-loop-from
invariant-loop-from g l = record {
  run : Holds l.end l.runs l.run l.from;
  step : Holds l.end l.steps l.step l.from;
  near : l.from ≤ l.end;
  within : AreWithin g.V.Level.levels l.runs l.steps l.from;
}

abbrev pub decreases-loop-from : goal.decreases-loop-from
decreases-loop-from g l = l.end - l.from
