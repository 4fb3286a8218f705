use Rattle.rbc_scene_laws.proofs.KeptLemmas.{good_after_step, good_empty_scene, good_replay, IsBestHistory-of_legal, joined}
use Rattle.rbc_scene_laws.proofs.histories_keep.Goals as goal

pub returns-clause-good : goal.returns-clause-good
returns-clause-good c = good_after_step

pub returns-clause-empty : goal.returns-clause-empty
returns-clause-empty c = good_empty_scene

pub returns-clause-scenes : goal.returns-clause-scenes
returns-clause-scenes c = good_replay

pub returns-clause-best : goal.returns-clause-best
returns-clause-best c = IsBestHistory-of_legal

pub returns-clause-join : goal.returns-clause-join
returns-clause-join c = joined
