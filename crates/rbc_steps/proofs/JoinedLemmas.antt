-- A list of steps in its one spelling is a list of steps with the same values.
use Rattle.std.proofs.Common.{◌≡◌, ℕ, ◌<◌, ◌≤◌, Bool, true, false, not, cond, List, [], ◌∷◌, Option, Some, None, refl, arith, ap, sym, ◌∙◌, nat_le, nat_lt, if◌then◌else◌}
use Rattle.std.specs.List.{list_all, dedup_from}
use Rattle.std.specs.Option.{option_or}
use Rattle.std.proofs.lemmas.Bool.{le-leb, lt-ltb, leb-true, and_from}
use Rattle.std.proofs.lemmas.List.Folds.{list_all-map}
use Rattle.rbc_model.specs.Levels.{Levels, is_same, IsInRange, IsLawful}
use Rattle.rbc_model.specs.Profiles.{value_at, starts_of, rises_above, rises_from_zero, joined_steps, is_joined, IsTrackFunction}
use Rattle.rbc_model.proofs.StepListLemmas.{all_split, rises_split, zero_split}
use Rattle.rbc_model.proofs.RunLemmas.{one_value}

-- what rises above a number rises above each lower one
pub rises_lower : (low high : ℕ) (starts : List ℕ) → low ≤ high → rises_above high starts ≡ true → rises_above low starts ≡ true
rises_lower low high [] h e = refl
rises_lower low high (start ∷ later) h e = let s = rises_split high start later e in and_from _ _ (lt-ltb low start (omega arith)) s.1

module _ {V : Type 0} (same : (ℕ × V) → (ℕ × V) → Bool) where
  list_all-dedup_from : (test : (ℕ × V) → Bool) (kept : ℕ × V) (rows : List (ℕ × V)) → test kept ≡ true → list_all test rows ≡ true → list_all test (dedup_from same kept rows) ≡ true
  list_all-dedup_from test kept [] e f = and_from _ _ e refl
  list_all-dedup_from test kept (row ∷ rows) e f =
      let s = all_split test row rows f in
      elim (same row kept) as (λ b. list_all test (cond b (dedup_from same kept rows) (kept ∷ dedup_from same row rows)) ≡ true) [
        | true ↦ list_all-dedup_from test kept rows e s.1
        | false ↦ and_from _ _ e (list_all-dedup_from test row rows s.0 s.1)
      ]

  rises-dedup_from : (low : ℕ) (kept : ℕ × V) (rows : List (ℕ × V)) → low < kept.0 → rises_above kept.0 (starts_of rows) ≡ true → rises_above low (starts_of (dedup_from same kept rows)) ≡ true
  rises-dedup_from low kept [] l e = and_from _ _ (lt-ltb low kept.0 l) refl
  rises-dedup_from low kept (row ∷ rows) l e =
      let s = rises_split kept.0 row.0 (starts_of rows) e in
      elim (same row kept) as (λ b. rises_above low (starts_of (cond b (dedup_from same kept rows) (kept ∷ dedup_from same row rows))) ≡ true) [
        | true ↦ rises-dedup_from low kept rows l (rises_lower kept.0 row.0 (starts_of rows) (omega arith) s.1)
        | false ↦ and_from _ _ (lt-ltb low kept.0 l) (rises-dedup_from kept.0 row rows s.0 s.1)
      ]

  rises_from_zero-dedup_from : (kept : ℕ × V) (rows : List (ℕ × V)) → rises_from_zero (starts_of (kept ∷ rows)) ≡ true → rises_from_zero (starts_of (dedup_from same kept rows)) ≡ true
  rises_from_zero-dedup_from kept [] e = e
  rises_from_zero-dedup_from kept (row ∷ rows) e =
      let z = zero_split kept.0 (row.0 ∷ starts_of rows) e in
      let s = rises_split kept.0 row.0 (starts_of rows) z.1 in
      elim (same row kept) as (λ b. rises_from_zero (starts_of (cond b (dedup_from same kept rows) (kept ∷ dedup_from same row rows))) ≡ true) [
        | true ↦ rises_from_zero-dedup_from kept rows (rw z.0 (rises_lower 0 row.0 (starts_of rows) (omega arith) s.1))
        | false ↦ rw z.0 (rises-dedup_from 0 row rows (omega arith) s.1)
      ]

-- the value at one metre, where a step has that of the step before it
left_out : {V : Type 0} (later : Option V) (v : V) (low high x : ℕ) → low < high → option_or later (if nat_le low x then Some v else None) ≡ option_or (option_or later (if nat_le high x then Some v else None)) (if nat_le low x then Some v else None)
left_out (Some w) v low high x h = refl
left_out None v low high x h = go (nat_le low x) (nat_le high x) (λ e. le-leb low x (omega (arith, leb-true high x e)))
  where
    go : (a b : Bool) → (b ≡ true → a ≡ true) → (if a then Some v else None) ≡ option_or (if b then Some v else None) (if a then Some v else None)
    go true true k = refl
    go true false k = refl
    go false true k = cc (k refl)
    go false false k = refl

module _ {V : Type 0} (levels : Levels V) where
  abbrev same_rows : (ℕ × V) → (ℕ × V) → Bool
  same_rows next kept = is_same levels next.1 kept.1

  abbrev row_in_range : (ℕ × V) → Bool
  row_in_range row = levels.in_range row.1

  module _ (lawful : IsLawful levels) where
    value_at-dedup_from : (kept : ℕ × V) (rows : List (ℕ × V)) (x : ℕ) → rises_above kept.0 (starts_of rows) ≡ true → IsInRange levels kept.1 → list_all row_in_range rows ≡ true
        → value_at (dedup_from same_rows kept rows) x ≡ value_at (kept ∷ rows) x
    value_at-dedup_from kept [] x e k r = refl
    value_at-dedup_from kept (row ∷ rows) x e k r =
        let s = rises_split kept.0 row.0 (starts_of rows) e in
        let a = all_split row_in_range row rows r in
        let here : Option V → Option V = λ o. option_or o (if nat_le kept.0 x then Some kept.1 else None) in
        elim (same_rows row kept) as (λ b. same_rows row kept ≡ b → value_at (cond b (dedup_from same_rows kept rows) (kept ∷ dedup_from same_rows row rows)) x ≡ value_at (kept ∷ row ∷ rows) x) [
          | true ↦ λ same.
              value_at-dedup_from kept rows x (rises_lower kept.0 row.0 (starts_of rows) (omega arith) s.1) k a.1
              ∙ left_out (value_at rows x) kept.1 kept.0 row.0 x s.0
              ∙ ap (λ v. here (option_or (value_at rows x) (if nat_le row.0 x then Some v else None))) (sym (one_value levels lawful row.1 kept.1 a.0 k same))
          | false ↦ λ same. ap here (value_at-dedup_from row rows x s.1 a.0 a.1)
        ] refl

    -- joining leaves each value as it is
    pub value_at-joined : (rows : List (ℕ × V)) (x : ℕ) → rises_from_zero (starts_of rows) ≡ true → list_all row_in_range rows ≡ true → value_at (joined_steps levels rows) x ≡ value_at rows x
    value_at-joined [] x e r = refl
    value_at-joined (row ∷ rows) x e r =
        let a = all_split row_in_range row rows r in
        value_at-dedup_from row rows x (zero_split row.0 (starts_of rows) e).1 a.0 a.1

  head_stays : (kept : ℕ × V) (rows : List (ℕ × V)) → (tail : List (ℕ × V)) × (dedup_from same_rows kept rows ≡ kept ∷ tail)
  head_stays kept [] = ([], refl)
  head_stays kept (row ∷ rows) =
      elim (same_rows row kept) as (λ b. (tail : List (ℕ × V)) × (cond b (dedup_from same_rows kept rows) (kept ∷ dedup_from same_rows row rows) ≡ kept ∷ tail)) [
        | true ↦ head_stays kept rows
        | false ↦ (dedup_from same_rows row rows, refl)
      ]

  one_more : (kept row : ℕ × V) (steps tail : List (ℕ × V)) → steps ≡ row ∷ tail → is_same levels row.1 kept.1 ≡ false → is_joined levels steps ≡ true → is_joined levels (kept ∷ steps) ≡ true
  one_more kept row steps tail e s j = rw e (and_from _ _ (ap not s) (rw e at j))

  is_joined-dedup_from : (kept : ℕ × V) (rows : List (ℕ × V)) → is_joined levels (dedup_from same_rows kept rows) ≡ true
  is_joined-dedup_from kept [] = refl
  is_joined-dedup_from kept (row ∷ rows) =
      elim (same_rows row kept) as (λ b. same_rows row kept ≡ b → is_joined levels (cond b (dedup_from same_rows kept rows) (kept ∷ dedup_from same_rows row rows)) ≡ true) [
        | true ↦ λ s. is_joined-dedup_from kept rows
        | false ↦ λ s. let h = head_stays row rows in one_more kept row (dedup_from same_rows row rows) h.0 h.1 s (is_joined-dedup_from row rows)
      ] refl

  -- rows that rise from 0 below an end make a track
  pub IsTrackFunction-joined : (n : ℕ) (rows : List (ℕ × V)) → rises_from_zero (starts_of rows) ≡ true → list_all (λ start. nat_lt start n) (starts_of rows) ≡ true → list_all row_in_range rows ≡ true → IsTrackFunction levels n (joined_steps levels rows)
  IsTrackFunction-joined n [] e i r = record { starts = record { rising = e; inside = i }; values = r; once = refl }
  IsTrackFunction-joined n (row ∷ rows) e i r =
      let a = all_split row_in_range row rows r in
      let b = all_split (λ start. nat_lt start n) row.0 (starts_of rows) i in
      let below : (ℕ × V) → Bool = λ s. nat_lt s.0 n in
      record {
        starts = record {
          rising = rises_from_zero-dedup_from same_rows row rows e;
          inside =
              list_all-map (λ start. nat_lt start n) (λ s. s.0) (dedup_from same_rows row rows)
              ∙ list_all-dedup_from same_rows below row rows b.0 (sym (list_all-map (λ start. nat_lt start n) (λ s. s.0) rows) ∙ b.1);
        };
        values = list_all-dedup_from same_rows row_in_range row rows a.0 a.1;
        once = is_joined-dedup_from row rows;
      }
