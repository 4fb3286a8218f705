use Rattle.std.proofs.Common.{◌≡◌, drop}
use Rattle.rbc_model.specs.Profiles.{are_multiples, starts_of}
use Rattle.rbc_price.proofs.shape.are_in_units.Given as goal

abbrev pub invariant-loop-step : goal.invariant-loop-step
invariant-loop-step g l = are_multiples l.unit (starts_of (drop l.step-index l.profile.steps)) ≡ are_multiples l.unit (starts_of l.profile.steps)
