use Rattle.std.proofs.Common.{◌∙◌, ap, sym, Option}
use Rattle.std.specs.Option.{option_map_or}
use Rattle.rbc_model.specs.declared.places.Leg.{Leg}
use Rattle.rbc_model.specs.declared.refusals.Obstacle.TheVariants.{Own}
use Rattle.rbc_reach_laws.specs.Nearest.{end_obstacle}
use Rattle.rbc_search.specs.Reaches.{ReachOnTrack, scene_of}
use Rattle.rbc_search.proofs.search.end_reach.Goals as goal

pub returns-clause-obstacle : goal.returns-clause-obstacle
returns-clause-obstacle c = λ trains.
    ap (λ (r : ReachOnTrack). r.obstacle) c.new.ensures ∙ c.end_obstacle-obstacle.ensures trains
    ∙ sym (ap (λ (o : Option Leg). option_map_or (end_obstacle (scene_of c.args.locks.now trains)) o Own) c.last.ensures.leg)
