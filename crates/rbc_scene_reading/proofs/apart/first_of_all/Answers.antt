use Rattle.std.proofs.Common.{◌∙◌, List, ap}
use Rattle.std.specs.Prelude.{find, option_map}
use Rattle.rbc_scene.specs.Entries.{number_on}
use Rattle.rbc_scene.specs.TrainsOnTracks.{TrainOnTrack}
use Rattle.rbc_scene_reading.specs.Spans.{shares}
use Rattle.rbc_scene_reading.proofs.apart.first_of_all.Goals as goal

pub loop-other-init : goal.loop-other-init
loop-other-init c =
    let e = c.into_iter-other-iterator.ensures.into_iter_gives ∙ c.trains-other-items.ensures.trains in
    record {
      can = tt;
      finite = tt;
      found = ap (λ (l : List TrainOnTrack). option_map number_on (find (shares c.args.train.now.track c.args.section c.args.train.now.train) l)) e;
    }
