use Rattle.std.proofs.Common.{◌≡◌, drop}
use Rattle.rbc_model.specs.CheckText.{steps_of}
use Rattle.rbc_checks.proofs.LineLemmas.{with_front}
use Rattle.rbc_checks.proofs.table.steps_of.Given as goal

abbrev pub invariant-loop-step : goal.invariant-loop-step
invariant-loop-step g l =
    steps_of g.V.Level.levels g.V.ToldLevel.value_of l.told
    ≡ with_front l.steps.items (steps_of g.V.Level.levels g.V.ToldLevel.value_of (drop l.step-index l.told))
