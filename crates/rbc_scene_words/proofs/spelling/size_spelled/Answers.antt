use Rattle.std.proofs.Common.{rules}
use Rattle.rbc_scene_words.proofs.WordLemmas.{size_spelled-no_last}
use Rattle.rbc_scene_words.proofs.spelling.size_spelled.Goals as goal

pub returns-in_err-time : goal.returns-in_err-time
returns-in_err-time c = search (rules, size_spelled-no_last)
