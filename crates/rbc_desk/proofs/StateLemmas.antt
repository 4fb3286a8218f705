-- Lemmas on how many sections are locked.
use Rattle.std.proofs.Common.{◌≡◌, ℕ, zero, suc, ◌+◌, ◌<◌, Bool, cond, [], ◌∷◌, None, is_some, filter, length, take, get_or, refl, ap, sym, ◌∙◌}
use Rattle.std.proofs.lemmas.List.Filters.{length-filter_more}
use Rattle.rbc_model.specs.Locks.{Locks, row}

-- the row of a section stands at its index
row_there : (locks : Locks) (section : ℕ) → row locks section ≡ get_or locks section None
row_there [] section = refl
row_there (lock ∷ locks) zero = refl
row_there (lock ∷ locks) (suc section) = row_there locks section

-- how many are locked among the first sections, with one section more
pub locked_more : (locks : Locks) (section count : ℕ) → section < length locks → count ≡ length (filter is_some (take section locks)) → (is : Bool) → is ≡ is_some (row locks section)
    → count + cond is 1 0 ≡ length (filter is_some (take (section + 1) locks))
locked_more locks section count inside counted is locked =
    (λ i. counted i + cond ((locked ∙ ap is_some (row_there locks section)) i) 1 0) ∙ sym (length-filter_more is_some locks section None inside)
