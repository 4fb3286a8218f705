use Rattle.std.proofs.Common.{◌≡◌, ◌∷◌, length}
use Rattle.rbc_model.specs.CheckText.{profile_in}
use Rattle.rbc_model.specs.Words.{words_of}
use Rattle.rbc_checks.proofs.LineLemmas.{with_steps}
use Rattle.rbc_checks.proofs.lines.profile_in.Given as goal

abbrev pub invariant-loop-last : goal.invariant-loop-last
invariant-loop-last l = profile_in (words_of l.words) ≡ with_steps l.steps.items (profile_in (l.word ∷ l.next ∷ words_of l.rest))

abbrev pub decreases-loop-last : goal.decreases-loop-last
decreases-loop-last l = length l.rest
