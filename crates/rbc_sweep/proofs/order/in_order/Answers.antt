use Rattle.std.proofs.Common.{IsPermutation, ap, map, subst, sym, ◌∙◌}
use Rattle.std.proofs.lemmas.List.Sorted.{IsPermutation-map}
use Rattle.rbc_sweep.specs.Outcomes.{train_of}
use Rattle.rbc_sweep.specs.Serving.{outcome_of}
use Rattle.rbc_sweep.proofs.OrderLemmas.{sorted_has_trains}
use Rattle.rbc_sweep.proofs.order.in_order.Goals as goal

pub returns-clause-permutation : goal.returns-clause-permutation
returns-clause-permutation c =
    subst (λ outcomes. IsPermutation (map outcome_of c.args.done.items) outcomes) (sym c.outcomes_of.ensures)
    (IsPermutation-map outcome_of _ _ c.sorted.ensures.permutation)

pub returns-clause-trains : goal.returns-clause-trains
returns-clause-trains c = λ trains same.
    ap (λ outcomes. map train_of outcomes) c.outcomes_of.ensures
    ∙ sorted_has_trains trains _ _ c.sorted.ensures.permutation c.sorted.ensures.sorted same
