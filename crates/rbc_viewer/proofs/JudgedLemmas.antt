-- What is said of the blocks of a text in all, and whether one was refused.
use Rattle.std.proofs.Common.{◌≡◌, ℕ, not, ◌||◌, List, [], ◌∷◌, ◌++◌, refl, ◌∙◌, append_assoc}
use Rattle.rbc_model.specs.declared.places.Format.TheVariants.{Far}
use Rattle.rbc_model.specs.CheckText.{block_text, check_line, opened, ended, check_text}
use Rattle.rbc_model.proofs.BasicLemmas.{or_not-or_not}
use Rattle.rbc_checks.specs.CheckAnswers.{is_not_refused, are_certified}
use Rattle.rbc_viewer.specs.Judged.{Judged, behind_line, behind_lines, at_end}

pub verdicts_are : (first : Judged) (lines : List (List ℕ)) → (let last : Judged = at_end (behind_lines first lines) in last.verdicts) ≡ first.verdicts ++ check_text Far first.block lines
verdicts_are first [] = refl
verdicts_are first (line ∷ lines) =
    verdicts_are (behind_line first (check_line Far line)) lines
    ∙ append_assoc first.verdicts (block_text (ended first.block (check_line Far line))) (check_text Far (opened first.block (check_line Far line)) lines)

pub refused_is : (first : Judged) (lines : List (List ℕ)) → (let last : Judged = at_end (behind_lines first lines) in last.refused) ≡ (first.refused || not (are_certified Far first.block lines))
refused_is first [] = refl
refused_is first (line ∷ lines) =
    refused_is (behind_line first (check_line Far line)) lines
    ∙ or_not-or_not first.refused (is_not_refused (ended first.block (check_line Far line))) (are_certified Far (opened first.block (check_line Far line)) lines)
