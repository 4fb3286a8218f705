use Rattle.std.proofs.Common.{◌∙◌, ap}
use Rattle.rbc_steps.specs.Mirrored.{mirrored}
use Rattle.rbc_steps.proofs.TurnedLemmas.{turned}
use Rattle.rbc_steps.proofs.runs.Runs.reversed.Goals as goal

pub invariant_of-result : goal.invariant_of-result
invariant_of-result g c = (
  (turned c.self.inside.end g.V.Level.levels c.self.inside.runs.items c.in_ok-runs.runs.items c.self.invariant.0 (c.in_ok-runs.ensures ∙ ap (mirrored c.self.inside.end) c.deref.ensures.value)).track,
  c.self.invariant.1,
)

pub returns-clause-back : goal.returns-clause-back
returns-clause-back g c =
    rw (← c.self.view_is)
    (turned c.self.inside.end g.V.Level.levels c.self.inside.runs.items c.in_ok-runs.runs.items c.self.invariant.0 (c.in_ok-runs.ensures ∙ ap (mirrored c.self.inside.end) c.deref.ensures.value)).reverses

pub returns-clause-track : goal.returns-clause-track
returns-clause-track g c = (turned c.self.inside.end g.V.Level.levels c.self.inside.runs.items c.in_ok-runs.runs.items c.self.invariant.0 (c.in_ok-runs.ensures ∙ ap (mirrored c.self.inside.end) c.deref.ensures.value)).track
