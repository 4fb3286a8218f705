use Rattle.std.proofs.Common.{◌≡◌, ◌≤◌, ◌*◌, length}
use Rattle.rbc_model.specs.Words.{words_of}
use Rattle.rbc_decode.specs.Spelling.{in_front, spelled}
use Rattle.rbc_decode.proofs.spelling.spell.Given as goal

-- the bytes so far, in front of those that are spelled behind them, are what all spell
abbrev pub invariant-loop-word : goal.invariant-loop-word
invariant-loop-word l = record {
  whole : spelled 0 (words_of l.text) ≡ in_front l.octets (spelled l.count (words_of l.rest));
  twice : l.count ≡ 2 * length l.octets;
  few : l.count ≤ 4096;
}

abbrev pub decreases-loop-word : goal.decreases-loop-word
decreases-loop-word l = length l.rest
