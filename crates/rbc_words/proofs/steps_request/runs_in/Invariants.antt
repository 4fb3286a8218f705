use Rattle.std.proofs.Common.{◌+◌, ◌≤◌, ◌∷◌, length}
use Rattle.rbc_model.specs.declared.places.Format.TheVariants.{Far}
use Rattle.rbc_model.specs.Words.{words_of}
use Rattle.rbc_model.specs.StepsText.{runs_in}
use Rattle.rbc_words.proofs.RequestLemmas.{IsSoFar}
use Rattle.rbc_words.proofs.steps_request.runs_in.Given as goal

abbrev pub invariant-loop-last : goal.invariant-loop-last
invariant-loop-last g l =
    let kind = g.V.Spelled.kind in
    IsSoFar (runs_in kind Far l.limit 3 (l.first ∷ l.second ∷ words_of l.words)) (runs_in kind Far l.limit l.index (l.word ∷ l.next ∷ words_of l.rest)) l.refused l.runs.items
    × (l.index + length l.rest ≤ 3 + length l.words)

abbrev pub decreases-loop-last : goal.decreases-loop-last
decreases-loop-last g l = length l.rest
