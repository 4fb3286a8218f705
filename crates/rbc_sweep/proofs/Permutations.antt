-- Lists joined end to end, of elements that are moved.
use Rattle.std.proofs.Common.{ℕ, zero, suc, ◌<◌, List, [], ◌∷◌, ◌++◌, length, get_or, set, sym, subst, append_assoc, arith}
use Rattle.std.specs.List.{flat_map, swap}
use Rattle.std.specs.List.Sorted.{IsPermutation}
use Rattle.std.proofs.lemmas.List.Edits.{swap_is}
use Rattle.std.proofs.lemmas.List.Sorted.{IsPermutation-append_comm, IsPermutation-append_left, IsPermutation-append_right, IsPermutation-keeps, IsPermutation-refl, IsPermutation-trans}

module _ {A : Type 0} where
  -- two lists in front of a third change places
  pub fronts_swapped : (xs ys zs : List A) → IsPermutation (xs ++ (ys ++ zs)) (ys ++ (xs ++ zs))
  fronts_swapped xs ys zs =
      subst (λ l. IsPermutation l (ys ++ (xs ++ zs))) (append_assoc xs ys zs)
      (subst (λ l. IsPermutation ((xs ++ ys) ++ zs) l) (append_assoc ys xs zs)
      (IsPermutation-append_left zs (xs ++ ys) (ys ++ xs) (IsPermutation-append_comm xs ys)))

  -- the inner two of four lists change places
  pub inner_swapped : (ws xs ys zs : List A) → IsPermutation ((ws ++ xs) ++ (ys ++ zs)) ((ws ++ ys) ++ (xs ++ zs))
  inner_swapped ws xs ys zs =
      subst (λ l. IsPermutation l ((ws ++ ys) ++ (xs ++ zs))) (sym (append_assoc ws xs (ys ++ zs)))
      (subst (λ l. IsPermutation (ws ++ (xs ++ (ys ++ zs))) l) (sym (append_assoc ws ys (xs ++ zs)))
      (IsPermutation-append_right ws (xs ++ (ys ++ zs)) (ys ++ (xs ++ zs)) (fronts_swapped xs ys zs)))

module _ {X A : Type 0} (f : X → List A) where
  one_taken_out : (xs : List X) (i : ℕ) (x d : X) → i < length xs → IsPermutation (f x ++ flat_map f xs) (f (get_or xs i d) ++ flat_map f (set xs i x))
  one_taken_out [] i x d inside = absurd (omega arith)
  one_taken_out (z ∷ zs) zero x d inside = fronts_swapped (f x) (f z) (flat_map f zs)
  one_taken_out (z ∷ zs) (suc i) x d inside =
      let rest = flat_map f (set zs i x) in
      let y = f (get_or zs i d) in
      IsPermutation-trans (f x ++ (f z ++ flat_map f zs)) (f z ++ (f x ++ flat_map f zs)) (y ++ (f z ++ rest)) (fronts_swapped (f x) (f z) (flat_map f zs))
      (IsPermutation-trans (f z ++ (f x ++ flat_map f zs)) (f z ++ (y ++ rest)) (y ++ (f z ++ rest))
      (IsPermutation-append_right (f z) (f x ++ flat_map f zs) (y ++ rest) (one_taken_out zs i x d (omega arith))) (fronts_swapped (f z) y rest))

  two_swapped : (xs : List X) (i j : ℕ) (d : X) → i < length xs → j < length xs
      → IsPermutation (flat_map f xs) (flat_map f (set (set xs i (get_or xs j d)) j (get_or xs i d)))
  two_swapped [] i j d p q = absurd (omega arith)
  two_swapped (x ∷ xs) zero zero d p q = IsPermutation-refl (flat_map f (x ∷ xs))
  two_swapped (x ∷ xs) zero (suc j) d p q = one_taken_out xs j x d (omega arith)
  two_swapped (x ∷ xs) (suc i) zero d p q = one_taken_out xs i x d (omega arith)
  two_swapped (x ∷ xs) (suc i) (suc j) d p q =
      IsPermutation-append_right (f x) (flat_map f xs) (flat_map f (set (set xs i (get_or xs j d)) j (get_or xs i d))) (two_swapped xs i j d (omega arith) (omega arith))

  swap_moves : (xs : List X) (i j : ℕ) → i < length xs → j < length xs → IsPermutation (flat_map f xs) (flat_map f (swap xs i j))
  swap_moves [] i j p q = absurd (omega arith)
  swap_moves (x ∷ xs) i j p q =
      subst (λ l. IsPermutation (flat_map f (x ∷ xs)) (flat_map f l)) (swap_is (x ∷ xs) i j x p q) (two_swapped (x ∷ xs) i j x p q)

  pub IsPermutation-flat_map : (xs ys : List X) → IsPermutation xs ys → IsPermutation (flat_map f xs) (flat_map f ys)
  IsPermutation-flat_map xs ys moved =
      IsPermutation-keeps xs (λ l. IsPermutation (flat_map f xs) (flat_map f l)) (IsPermutation-refl (flat_map f xs))
      (λ l i j p q so_far. IsPermutation-trans (flat_map f xs) (flat_map f l) (flat_map f (swap l i j)) so_far (swap_moves l i j p q)) ys moved
