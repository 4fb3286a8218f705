use Rattle.rbc_scene_words.proofs.SaidLemmas.{parsed_back}
use Rattle.rbc_scene_words.proofs.SceneTextLemmas.{scenes_parsed_back}
use Rattle.rbc_scene_words.proofs.WrittenLemmas.{read_are_written}
use Rattle.rbc_scene_words.proofs.laws.scene_lines_are_parsed_back.Goals as goal

pub returns-clause-lines : goal.returns-clause-lines
returns-clause-lines c = parsed_back

pub returns-clause-scenes : goal.returns-clause-scenes
returns-clause-scenes c = scenes_parsed_back

pub returns-clause-written : goal.returns-clause-written
returns-clause-written c = read_are_written
