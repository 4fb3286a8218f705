use Rattle.std.proofs.Common.{◌≡◌, ◌≤◌, ◌+◌, ◌*◌, ◌++◌, drop, length, map}
use Rattle.rbc_words.specs.LineWords.{word_text}
use Rattle.rbc_words.specs.PriceText.{spaced}
use Rattle.rbc_words.proofs.line_words.gather_words.Given as goal

abbrev pub invariant-loop-i : goal.invariant-loop-i
invariant-loop-i l = (l.text ≡ spaced (map word_text (drop l.i l.words)) ++ l.fn.text) × (length l.text + 33 * l.i ≤ length l.fn.text + 33 * length l.words)
