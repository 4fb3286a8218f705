use Rattle.std.proofs.Common.{◌≡◌, true, drop}
use Rattle.rbc_scene_words.specs.SceneLine.{is_close}
use Rattle.rbc_scene_words.proofs.spelling.is_close.Given as goal

-- what is left goes on as close as all of it
abbrev pub invariant-loop-byte : goal.invariant-loop-byte
invariant-loop-byte l = is_close l.begins (drop l.byte-index l.line) ≡ is_close true l.line
