-- The reasons for which lines were refused, told one after the other.
use Rattle.std.proofs.Common.{◌≡◌, ℕ, ◌+◌, ◌<◌, ◌≤◌, List, length, drop, ap, sym, ◌∙◌}
use Rattle.std.proofs.lemmas.List.{at_drop_all, at_drop_more}
use Rattle.std.specs.Prelude.{get_or}
use Rattle.rbc_page.specs.Metrics.{with_all_refused, with_refused}
use Rattle.rbc_page.specs.declared.numbers.Refused.{Refused}

-- one more
pub one_told : (text new : List ℕ) (refused : List Refused) (i : ℕ) (d : Refused) → i < length refused
    → new ≡ with_refused text (get_or refused i d).word.now (get_or refused i d).count → with_all_refused new (drop (i + 1) refused) ≡ with_all_refused text (drop i refused)
unfolding with_all_refused
one_told text new refused i d inside is =
    ap (λ t. with_all_refused t (drop (i + 1) refused)) is ∙ sym (at_drop_more (with_all_refused text) refused i d inside)

-- all of them
pub all_told : (text whole : List ℕ) (refused : List Refused) (i : ℕ) → length refused ≤ i → with_all_refused text (drop i refused) ≡ whole → text ≡ whole
unfolding with_all_refused
all_told text whole refused i over is = sym (at_drop_all (with_all_refused text) refused i over) ∙ is
