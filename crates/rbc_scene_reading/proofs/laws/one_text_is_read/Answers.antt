use Rattle.rbc_scene_reading.proofs.OneTextLemmas.{one_text}
use Rattle.rbc_scene_reading.proofs.laws.one_text_is_read.Goals as goal

pub returns : goal.returns
returns c = one_text c.scene_lines_are_parsed_back.ensures.scenes c.scene_lines_are_parsed_back.ensures.written
