use Rattle.std.proofs.Common.{◌≡◌, drop}
use Rattle.std.specs.Prelude.{find, filter_map, is_some}
use Rattle.rbc_model.specs.Locks.{next, taken_link, with_leg_before}
use Rattle.rbc_locks.proofs.locks.first_taken.Given as goal

abbrev pub invariant-loop-leg : goal.invariant-loop-leg
invariant-loop-leg l =
    find (λ leg. is_some (next l.locks leg)) (filter_map (λ need. need.1) (with_leg_before l.before (drop l.leg-index l.leg-items)))
    ≡ taken_link l.locks l.route
