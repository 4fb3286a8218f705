use Rattle.std.proofs.Common.{◌≡◌, drop}
use Rattle.std.specs.List.{list_any}
use Rattle.rbc_model.specs.Locks.{with_leg_before}
use Rattle.rbc_good_laws.specs.Told.{needs, same_need}
use Rattle.rbc_scene_reading.proofs.rows.needs.Given as goal

abbrev pub invariant-loop-other : goal.invariant-loop-other
invariant-loop-other l =
    list_any (λ other. same_need other (l.leg, l.before)) (with_leg_before l.before_it (drop l.other-index l.other-items)) ≡ needs (l.leg, l.before) l.route
