use Rattle.std.proofs.Common.{◌≡◌, length}
use Rattle.rbc_model.specs.CheckText.{numbers_in}
use Rattle.rbc_model.specs.Words.{words_of}
use Rattle.rbc_checks.proofs.LineLemmas.{with_front}
use Rattle.rbc_checks.proofs.lines.numbers_in.Given as goal

abbrev pub invariant-loop-word : goal.invariant-loop-word
invariant-loop-word l = numbers_in (words_of l.words) ≡ with_front l.numbers.items (numbers_in (words_of l.rest))

abbrev pub decreases-loop-word : goal.decreases-loop-word
decreases-loop-word l = length l.rest
