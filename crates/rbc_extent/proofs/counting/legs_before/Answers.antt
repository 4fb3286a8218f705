use Rattle.rbc_model.specs.Tracks.{leg_eq}
use Rattle.rbc_extent.proofs.PositionLemmas.{position-cases}
use Rattle.rbc_extent.proofs.counting.legs_before.Goals as goal

pub returns-in-Some-clause-before : goal.returns-in-Some-clause-before
returns-in-Some-clause-before c = position-cases (leg_eq c.args.leg) c.args.legs.now _ c.in-Some.ensures

pub returns-in-None-clause-before : goal.returns-in-None-clause-before
returns-in-None-clause-before c = position-cases (leg_eq c.args.leg) c.args.legs.now _ c.in-None.ensures
