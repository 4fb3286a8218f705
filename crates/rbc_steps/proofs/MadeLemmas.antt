-- What rows make, once they have passed their tests.
use Rattle.std.proofs.Common.{◌≡◌, ℕ, ◌≤◌, ◌%◌, ◌==◌, Bool, true, ◌&&◌, List, [], ◌∷◌, ◌++◌, length, take, refl, arith, nat_le, nat_lt}
use Rattle.std.specs.List.{list_all}
use Rattle.std.proofs.lemmas.Bool.{leb-true, eq-eqb, and_from}
use Rattle.std.proofs.Math.Seq.{take-append_seam}
use Rattle.rbc_model.specs.Levels.{Levels}
use Rattle.rbc_model.specs.Profiles.{starts_of, rises_from_zero, are_inside, joined_steps, IsTrackFunction, IsProfile}
use Rattle.rbc_model.specs.declared.limits.TheConstants.{LONGEST_TRACK, MOST_STEPS}
use Rattle.rbc_model.proofs.CountingLemmas.{both_of}
use Rattle.rbc_model.proofs.StepListLemmas.{all_split}
use Rattle.rbc_steps.proofs.JoinedLemmas.{IsTrackFunction-joined}

-- each start below the end, and the end not too far
pub inside_split : (n : ℕ) (starts : List ℕ) → are_inside n starts ≡ true → (n ≤ LONGEST_TRACK) × (list_all (λ start. nat_lt start n) starts ≡ true)
inside_split n starts e = let b = both_of (nat_le n LONGEST_TRACK) (list_all (λ start. nat_lt start n) starts) e in (leb-true n LONGEST_TRACK b.0, b.1)

all_both : {X : Type 0} (p q : X → Bool) (xs : List X) → list_all p xs ≡ true → list_all q xs ≡ true → list_all (λ x. p x && q x) xs ≡ true
all_both p q [] e f = refl
all_both p q (x ∷ xs) e f = let a = all_split p x xs e in let b = all_split q x xs f in and_from _ _ (and_from _ _ a.0 b.0) (all_both p q xs a.1 b.1)

-- every start is a multiple of one metre
whole_metres : (starts : List ℕ) → list_all (λ start. start % 1 == 0) starts ≡ true
whole_metres [] = refl
whole_metres (start ∷ starts) = and_from _ _ (eq-eqb (start % 1) 0 (omega arith)) (whole_metres starts)

module _ {V : Type 0} (levels : Levels V) (n : ℕ) (rows : List (ℕ × V)) (rising : rises_from_zero (starts_of rows) ≡ true) (inside : are_inside n (starts_of rows) ≡ true) (in_range : list_all (λ row. levels.in_range row.1) rows ≡ true) where
  pub track_made : (joined : List (ℕ × V)) → joined ≡ joined_steps levels rows → IsTrackFunction levels n joined × (n ≤ LONGEST_TRACK)
  track_made joined e = let s = inside_split n (starts_of rows) inside in (rw e (IsTrackFunction-joined levels n rows rising s.1 in_range), s.0)

  pub profile_made : (kept spare : List (ℕ × V)) → kept ≡ rows → length rows ≤ MOST_STEPS → list_all (λ row. levels.is_expressible row.1) rows ≡ true
      → IsProfile levels 1 MOST_STEPS n (take (length rows) (kept ++ spare)) × (length rows ≤ MOST_STEPS) × (n ≤ LONGEST_TRACK)
  profile_made kept spare e few expressible =
      let s = inside_split n (starts_of rows) inside in
      let same : take (length rows) (kept ++ spare) ≡ rows = rw e (take-append_seam rows spare) in (
        rw same
            (record {
              starts = record { rising = rising; inside = s.1 };
              in_units = whole_metres (starts_of rows);
              few = few;
              values = all_both (λ row. levels.in_range row.1) (λ row. levels.is_expressible row.1) rows in_range expressible;
            }),
        few,
        s.0,
      )
