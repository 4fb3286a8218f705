use Rattle.std.proofs.Common.{ap}
use Rattle.rbc_model.specs.Levels.{grade_levels}
use Rattle.rbc_model.specs.Scales.{unit_of}
use Rattle.rbc_reach.specs.Forms.{metres_shown}
use Rattle.rbc_grant.specs.Reductions.{grades_shown}
use Rattle.rbc_grant.proofs.ReductionLemmas.{reduction_of}
use Rattle.rbc_grant.proofs.candidates.reductions.reduced_grades.Goals as goal

pub returns : goal.returns
returns g c =
    let view = c.args.view.now in
    let reduced = c.in_ok-reduced.reduced in
    reduction_of grade_levels (unit_of c.grades.result.now.end) c.grade_steps.result (unit_of (metres_shown view)) view.grade_steps c.grades.result.now (grades_shown view) reduced.profile reduced.loss reduced.prices.items
    (ap (λ track. unit_of track.end) c.grades.ensures) c.grade_steps.ensures c.grades.ensures
    (record { chosen = c.in_ok-reduced.ensures.chosen; end = c.in_ok-reduced.ensures.end; loss = c.in_ok-reduced.ensures.loss; prices = c.in_ok-reduced.ensures.prices })
