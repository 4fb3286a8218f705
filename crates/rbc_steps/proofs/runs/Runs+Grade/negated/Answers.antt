use Rattle.std.proofs.Common.{◌∙◌, ap, map}
use Rattle.std.specs.Prelude.{neg_ℤ}
use Rattle.rbc_steps.proofs.NegatedLemmas.{track_negated}
use Rattle.rbc_steps.proofs.runs.Runs+Grade.negated.Goals as goal

pub invariant_of-result : goal.invariant_of-result
invariant_of-result c = (
  track_negated c.self.inside.end c.self.inside.runs.items c.in_ok-runs.runs.items
      (c.in_ok-runs.ensures ∙ ap (λ rows. map (λ row. (row.0, neg_ℤ row.1)) rows) c.deref.ensures.value)
      c.self.invariant.0,
  c.self.invariant.1,
)
