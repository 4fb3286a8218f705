use Rattle.std.proofs.Common.{rules}
use Rattle.rbc_scene_words.proofs.WordLemmas.{distances_in-no_last}
use Rattle.rbc_scene_words.proofs.scene_line.holds_in.Goals as goal

pub returns-in_err-to : goal.returns-in_err-to
returns-in_err-to c = search (rules, distances_in-no_last)
