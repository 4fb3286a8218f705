use Rattle.std.proofs.Common.{rules}
use Rattle.rbc_scene_words.proofs.WordLemmas.{locked_in-no_last}
use Rattle.rbc_scene_words.proofs.scene_line.locked_in.Goals as goal

pub returns-in_err-before : goal.returns-in_err-before
returns-in_err-before c = search (rules, locked_in-no_last)
