use Rattle.std.proofs.Common.{rules}
use Rattle.rbc_scene_words.proofs.WordLemmas.{distances_in-no_last}
use Rattle.rbc_scene_words.proofs.scene_line.stands_in.Goals as goal

pub returns-in_err-front : goal.returns-in_err-front
returns-in_err-front c = search (rules, distances_in-no_last)
