use Rattle.std.proofs.Common.{ap}
use Rattle.rbc_model.specs.Levels.{speed_levels}
use Rattle.rbc_model.specs.Scales.{unit_of}
use Rattle.rbc_reach.specs.Forms.{metres_shown}
use Rattle.rbc_grant.specs.Reductions.{speeds_shown}
use Rattle.rbc_grant.proofs.ReductionLemmas.{reduction_of}
use Rattle.rbc_grant.proofs.candidates.reductions.reduced_speeds.Goals as goal

pub returns : goal.returns
returns g c =
    let view = c.args.view.now in
    let reduced = c.in_ok-reduced.reduced in
    reduction_of speed_levels (unit_of c.speeds.result.now.end) c.speed_steps.result (unit_of (metres_shown view)) view.speed_steps c.speeds.result.now (speeds_shown view) reduced.profile reduced.loss reduced.prices.items
    (ap (λ track. unit_of track.end) c.speeds.ensures) c.speed_steps.ensures c.speeds.ensures
    (record { chosen = c.in_ok-reduced.ensures.chosen; end = c.in_ok-reduced.ensures.end; loss = c.in_ok-reduced.ensures.loss; prices = c.in_ok-reduced.ensures.prices })
