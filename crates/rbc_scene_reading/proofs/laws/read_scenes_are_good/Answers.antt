use Rattle.rbc_scene_reading.proofs.ReadLemmas.{read_are_good}
use Rattle.rbc_scene_reading.proofs.laws.read_scenes_are_good.Goals as goal

pub returns : goal.returns
returns c = read_are_good
