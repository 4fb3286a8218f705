-- Laws of what is taken of an input for the bytes that are given.
use Rattle.std.proofs.Common.{◌≡◌, ℕ, List, [], ◌∷◌, ◌++◌, Option, sym, ap, ◌∙◌, subst}
use Rattle.std.specs.List.{concat}
use Rattle.std.specs.Io.KnownBytes.{Consumes}
use Rattle.std.proofs.KnownBytes.{Consumes-trans}
use Rattle.std.proofs.lemmas.List.{append-nil}
use Rattle.std.proofs.lemmas.List.Elements.{All-push}
use Rattle.std.proofs.lemmas.List.Folds.{concat-append}
use Rattle.rbc_hints.specs.Help.{AsksForHelp, Passes}

-- one more line that asks for help
pub passes_asked : (a b c : Option (List ℕ)) (piece : List ℕ) → Passes a b [] → Consumes b c piece → AsksForHelp piece → Passes a c []
passes_asked a b c piece asked taken asks =
    let before = subst (Consumes a b) (append-nil (concat asked.0)) asked.2 in
    let all = Consumes-trans a b c (concat asked.0) piece before taken in
    (asked.0 ++ piece ∷ [], All-push AsksForHelp asked.0 piece asked.1 asks, subst (Consumes a c) (sym whole) all)
  where
    whole : concat (asked.0 ++ piece ∷ []) ++ [] ≡ concat asked.0 ++ piece
    whole =
        append-nil (concat (asked.0 ++ piece ∷ []))
        ∙ concat-append asked.0 (piece ∷ [])
        ∙ ap (λ t. concat asked.0 ++ t) (append-nil piece)
