use Rattle.rbc_text_laws.proofs.ReadBackLemmas.{scene_lines_are_read_back}
use Rattle.rbc_text_laws.proofs.TellableLemmas.{empty_scenes_are_tellable, next_is_what_is_shown, scenes_of_histories_are_read_back}
use Rattle.rbc_text_laws.proofs.scene_lines_are_read_back.Goals as goal

pub returns-clause-scene : goal.returns-clause-scene
returns-clause-scene c = scene_lines_are_read_back

pub returns-clause-history : goal.returns-clause-history
returns-clause-history c = scenes_of_histories_are_read_back

pub returns-clause-empty : goal.returns-clause-empty
returns-clause-empty c = empty_scenes_are_tellable

pub returns-clause-next : goal.returns-clause-next
returns-clause-next c = next_is_what_is_shown
