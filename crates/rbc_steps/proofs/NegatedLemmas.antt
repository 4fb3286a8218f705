-- A track of gradients, each negated, is a track.
use Rattle.std.proofs.Common.{◌≡◌, ℕ, suc, zero, Bool, true, false, not, ◌&&◌, ℤ, pos, negsuc, List, [], ◌∷◌, map, refl, ap, ◌∙◌, int_le, arith}
use Rattle.std.proofs.lemmas.Bool.Decides.{nat_tests}
use Rattle.std.specs.Prelude.{neg_ℤ}
use Rattle.std.specs.List.{list_all}
use Rattle.rbc_model.specs.Levels.{grade_levels, is_same}
use Rattle.rbc_model.specs.Profiles.{starts_of, is_joined, IsTrackFunction}

abbrev negated_rows : List (ℕ × ℤ) → List (ℕ × ℤ)
negated_rows rows = map (λ row. (row.0, neg_ℤ row.1)) rows

pub and_either_way : (a b : Bool) → (a && b) ≡ (b && a)
and_either_way true true = refl
and_either_way true false = refl
and_either_way false true = refl
and_either_way false false = refl

other_way : (a b : ℤ) → int_le (neg_ℤ a) (neg_ℤ b) ≡ int_le b a
other_way (pos zero) (pos zero) = refl
other_way (pos zero) (pos (suc b)) = grind (arith, nat_tests)
other_way (pos (suc a)) (pos zero) = grind (arith, nat_tests)
other_way (pos (suc a)) (pos (suc b)) = grind (arith, nat_tests)
other_way (pos zero) (negsuc b) = grind (arith, nat_tests)
other_way (pos (suc a)) (negsuc b) = refl
other_way (negsuc a) (pos zero) = grind (arith, nat_tests)
other_way (negsuc a) (pos (suc b)) = refl
other_way (negsuc a) (negsuc b) = grind (arith, nat_tests)

in_range_too : (a : ℤ) → grade_levels.in_range (neg_ℤ a) ≡ grade_levels.in_range a
in_range_too a =
    ap (λ b. b && int_le (neg_ℤ a) (pos 254)) (other_way (pos 254) a)
    ∙ ap (λ b. int_le a (pos 254) && b) (other_way a (negsuc 253))
    ∙ and_either_way (int_le a (pos 254)) (int_le (negsuc 253) a)

starts-negated : (rows : List (ℕ × ℤ)) → starts_of (negated_rows rows) ≡ starts_of rows
starts-negated [] = refl
starts-negated (row ∷ rows) = ap (λ s. row.0 ∷ s) (starts-negated rows)

values-negated : (rows : List (ℕ × ℤ)) → list_all (λ row. grade_levels.in_range row.1) (negated_rows rows) ≡ list_all (λ row. grade_levels.in_range row.1) rows
values-negated [] = refl
values-negated (row ∷ rows) = rw (in_range_too row.1, values-negated rows) refl

same-negated : (a b : ℤ) → is_same grade_levels (neg_ℤ a) (neg_ℤ b) ≡ is_same grade_levels a b
same-negated a b = rw (other_way a b, other_way b a) (and_either_way (int_le b a) (int_le a b))

once-negated : (rows : List (ℕ × ℤ)) → is_joined grade_levels (negated_rows rows) ≡ is_joined grade_levels rows
once-negated [] = refl
once-negated (row ∷ []) = refl
once-negated (row ∷ next ∷ rows) = rw (same-negated next.1 row.1) (ap (λ b. not (is_same grade_levels next.1 row.1) && b) (once-negated (next ∷ rows)))

pub track_negated : (n : ℕ) (rows negated : List (ℕ × ℤ)) → negated ≡ map (λ row. (row.0, neg_ℤ row.1)) rows → IsTrackFunction grade_levels n rows → IsTrackFunction grade_levels n negated
track_negated n rows negated e track = rw e (record {
  starts = record {
    rising = rw (starts-negated rows) track.starts.rising;
    inside = rw (starts-negated rows) track.starts.inside;
  };
  values = values-negated rows ∙ track.values;
  once = once-negated rows ∙ track.once;
})
