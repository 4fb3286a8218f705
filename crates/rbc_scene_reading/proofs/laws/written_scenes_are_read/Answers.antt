use Rattle.rbc_scene_reading.proofs.WrittenLemmas.{written_are_read}
use Rattle.rbc_scene_reading.proofs.laws.written_scenes_are_read.Goals as goal

pub returns : goal.returns
returns c = written_are_read c.scene_lines_are_parsed_back.ensures.scenes
