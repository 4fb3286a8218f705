-- One track behind another.
use Rattle.std.proofs.Common.{◌≡◌, ℕ, zero, suc, ◌+◌, ◌-◌, ◌<◌, ◌≤◌, Bool, true, false, not, ◌&&◌, List, [], ◌∷◌, ◌++◌, length, drop, take, get_or, map, Some, None, refl, arith, ap, sym, ◌∙◌, subst, nat_le, nat_lt, if◌then◌else◌}
use Rattle.std.specs.Int.{from_bool}
use Rattle.std.specs.List.{list_all}
use Rattle.std.specs.Option.{option_or}
use Rattle.std.proofs.lemmas.Bool.{lt-ltb, ltb-true, le-leb, lt-leb, and_from, not-true}
use Rattle.std.proofs.lemmas.Bool.Decides.{nat_tests}
use Rattle.std.proofs.lemmas.List.{length-drop, get_or_read}
use Rattle.std.proofs.Math.Seq.{take-length}
use Rattle.rbc_model.specs.Levels.{Levels, is_same, IsLawful, IsInRange}
use Rattle.rbc_model.specs.Profiles.{value_at, starts_of, rises_above, is_joined, IsTrackFunction, Follows}
use Rattle.rbc_model.specs.declared.limits.TheConstants.{LONGEST_TRACK}
use Rattle.rbc_model.proofs.CountingLemmas.{both_of}
use Rattle.rbc_model.proofs.StepListLemmas.{rises_split, zero_split, all_split, value_at-some}
use Rattle.rbc_model.proofs.RunLemmas.{one_value}
use Rattle.rbc_steps.proofs.JoinedLemmas.{rises_lower}
use Rattle.rbc_steps.proofs.JoinLemmas.{value_at-append, RisesFrom, is_joined-tail, IsTrackFunction-append}
use Rattle.rbc_steps.proofs.PlaceLemmas.{value_at-index, below_end, first_at_zero}

both_moved : (a x n : ℕ) → nat_le (a + n) (n + x) ≡ nat_le a x
both_moved a x n = grind (arith, nat_tests)

module _ {V : Type 0} (n : ℕ) where
  -- the rows, n metres further on
  abbrev pub moved : List (ℕ × V) → List (ℕ × V)
  moved rows = map (λ row. (row.0 + n, row.1)) rows

  rises-moved : (low : ℕ) (rows : List (ℕ × V)) → rises_above low (starts_of rows) ≡ true → rises_above (low + n) (starts_of (moved rows)) ≡ true
  rises-moved low [] e = refl
  rises-moved low (row ∷ rows) e = let s = rises_split low row.0 (starts_of rows) e in and_from _ _ (lt-ltb (low + n) (row.0 + n) (omega arith)) (rises-moved row.0 rows s.1)

  inside-moved : (m : ℕ) (rows : List (ℕ × V)) → list_all (λ start. nat_lt start m) (starts_of rows) ≡ true → list_all (λ start. nat_lt start (n + m)) (starts_of (moved rows)) ≡ true
  inside-moved m [] e = refl
  inside-moved m (row ∷ rows) e =
      let a = all_split (λ start. nat_lt start m) row.0 (starts_of rows) e in
      and_from _ _ (lt-ltb (row.0 + n) (n + m) (omega (arith, ltb-true row.0 m a.0))) (inside-moved m rows a.1)

  values-moved : (test : V → Bool) (rows : List (ℕ × V)) → list_all (λ row. test row.1) (moved rows) ≡ list_all (λ row. test row.1) rows
  values-moved test [] = refl
  values-moved test (row ∷ rows) = ap (λ b. test row.1 && b) (values-moved test rows)

  once-moved : (levels : Levels V) (rows : List (ℕ × V)) → is_joined levels (moved rows) ≡ is_joined levels rows
  once-moved levels [] = refl
  once-moved levels (row ∷ []) = refl
  once-moved levels (row ∷ next ∷ rows) = ap (λ b. not (is_same levels next.1 row.1) && b) (once-moved levels (next ∷ rows))

  value_at-moved : (rows : List (ℕ × V)) (x : ℕ) → value_at (moved rows) (n + x) ≡ value_at rows x
  value_at-moved [] x = refl
  value_at-moved (row ∷ rows) x = rw (value_at-moved rows x, both_moved row.0 x n) refl

  value_at-moved_before : (rows : List (ℕ × V)) (x : ℕ) → x < n → value_at (moved rows) x ≡ None
  value_at-moved_before [] x h = refl
  value_at-moved_before (row ∷ rows) x h = rw (value_at-moved_before rows x h, lt-leb (row.0 + n) x (omega arith)) refl

  -- rows that rise above a start rise from metre n on
  moved_from : (low : ℕ) (rows : List (ℕ × V)) → rises_above low (starts_of rows) ≡ true → RisesFrom n (moved rows)
  moved_from low rows e = λ p h. rises_lower p (low + n) (starts_of (moved rows)) (omega arith) (rises-moved low rows e)

  all_from : (head : ℕ × V) (rows : List (ℕ × V)) → rises_above head.0 (starts_of rows) ≡ true → RisesFrom n (moved (head ∷ rows))
  all_from head rows e = λ p h. and_from _ _ (lt-ltb p (head.0 + n) (omega arith)) (rises-moved head.0 rows e)

in_range_at : {V : Type 0} (levels : Levels V) (rows : List (ℕ × V)) (i : ℕ) (d : ℕ × V) → list_all (λ row. levels.in_range row.1) rows ≡ true → i < length rows → IsInRange levels (get_or rows i d).1
in_range_at levels [] i d e h = absurd (omega arith)
in_range_at levels (row ∷ rows) zero d e h = (all_split (λ r. levels.in_range r.1) row rows e).0
in_range_at levels (row ∷ rows) (suc i) d e h = in_range_at levels rows i d (all_split (λ r. levels.in_range r.1) row rows e).1 (omega arith)

module _ {V : Type 0} (levels : Levels V) (lawful : IsLawful levels) (n m : ℕ) (first : List (ℕ × V)) (one : IsTrackFunction levels n first) where
  -- behind the first track's end its last value holds on
  last_value : (i x : ℕ) (d : ℕ × V) → i + 1 ≡ length first → n ≤ x → value_at first x ≡ Some (get_or first i d).1
  last_value i x d e h = value_at-index first i x d (omega arith) (omega (arith, below_end n first i d one.starts.inside (omega arith))) (λ k a b. absurd (omega arith))

  -- the rows that are put behind
  abbrev pub behind : Bool → List (ℕ × V) → List (ℕ × V)
  behind joined second = moved n (drop (from_bool joined) second)

  module _ (joined : Bool) (head : ℕ × V) (second : List (ℕ × V)) (two : IsTrackFunction levels m (head ∷ second)) (seam : (i : ℕ) (e : ℕ × V) → i + 1 ≡ length first → joined ≡ is_same levels head.1 (get_or first i e).1) where
    same_value : (i : ℕ) (e : ℕ × V) → i + 1 ≡ length first → joined ≡ true → head.1 ≡ (get_or first i e).1
    same_value i e h j =
        let a = all_split (λ row. levels.in_range row.1) head second two.values in
        one_value levels lawful head.1 (get_or first i e).1 a.0 (in_range_at levels first i e one.values (omega arith)) (sym (seam i e h) ∙ j)

  differs_from_next : (head : ℕ × V) (second : List (ℕ × V)) (last : V) (d : ℕ × V) → head.1 ≡ last → is_joined levels (head ∷ second) ≡ true → 0 < length (moved n second) → is_same levels (get_or (moved n second) 0 d).1 last ≡ false
  differs_from_next head [] last d e j h = absurd (omega arith)
  differs_from_next head (next ∷ second) last d e j h =
      subst (λ v. is_same levels next.1 v ≡ false) e (not-true (is_same levels next.1 head.1) (both_of (not (is_same levels next.1 head.1)) (is_joined levels (next ∷ second)) j).0)

  track_of : (joined : Bool) (head : ℕ × V) (second : List (ℕ × V)) → IsTrackFunction levels m (head ∷ second) → ((i : ℕ) (e : ℕ × V) → i + 1 ≡ length first → joined ≡ is_same levels head.1 (get_or first i e).1)
      → IsTrackFunction levels (n + m) (first ++ behind joined (head ∷ second))
  track_of false head second two seam =
      let z = zero_split head.0 (starts_of second) two.starts.rising in
      IsTrackFunction-append levels n (n + m) first (moved n (head ∷ second)) (omega arith) one (all_from n head second z.1)
      (inside-moved n m (head ∷ second) two.starts.inside)
      (values-moved n levels.in_range (head ∷ second) ∙ two.values)
      (once-moved n levels (head ∷ second) ∙ two.once)
      (λ i d e h. sym (seam i d e))
  track_of true head second two seam =
      let z = zero_split head.0 (starts_of second) two.starts.rising in
      let a = all_split (λ row. levels.in_range row.1) head second two.values in
      let b = all_split (λ start. nat_lt start m) head.0 (starts_of second) two.starts.inside in
      IsTrackFunction-append levels n (n + m) first (moved n second) (omega arith) one (moved_from n head.0 second z.1)
      (inside-moved n m second b.1)
      (values-moved n levels.in_range second ∙ a.1)
      (once-moved n levels second ∙ is_joined-tail levels head second two.once)
      (λ i d e h. differs_from_next head second (get_or first i d).1 d (same_value true head second two seam i d e refl) two.once h)

  value_of : (joined : Bool) (head : ℕ × V) (second : List (ℕ × V)) (x : ℕ) → IsTrackFunction levels m (head ∷ second) → ((i : ℕ) (e : ℕ × V) → i + 1 ≡ length first → joined ≡ is_same levels head.1 (get_or first i e).1)
      → option_or (value_at (drop (from_bool joined) (head ∷ second)) x) (value_at first (n + x)) ≡ value_at (head ∷ second) x
  value_of false head second x two seam =
      let z = zero_split head.0 (starts_of second) two.starts.rising in
      let some = value_at-some head second x (omega (arith, z.0)) in
      ap (λ o. option_or o (value_at first (n + x))) some.1 ∙ sym some.1
  value_of true head second x two seam =
      let z = zero_split head.0 (starts_of second) two.starts.rising in
      let begun : nat_le head.0 x ≡ true = le-leb head.0 x (omega (arith, z.0)) in
      let some = first_at_zero first one.starts.rising in
      let i = length first - 1 in
      let last : i + 1 ≡ length first = omega (arith, some.0) in
      ap (option_or (value_at second x)) (last_value i (n + x) head last (omega arith) ∙ ap Some (sym (same_value true head second two seam i head last refl)))
      ∙ ap (λ b. option_or (value_at second x) (if b then Some head.1 else None)) (sym begun)

  values_of : (joined : Bool) (head : ℕ × V) (second : List (ℕ × V)) → IsTrackFunction levels m (head ∷ second) → ((i : ℕ) (e : ℕ × V) → i + 1 ≡ length first → joined ≡ is_same levels head.1 (get_or first i e).1)
      → Follows (record { steps = first; end = n }) (record { steps = head ∷ second; end = m }) (record { steps = first ++ behind joined (head ∷ second); end = n + m })
  values_of joined head second two seam = record {
    end = refl;
    before = λ x h.
        value_at-append first (behind joined (head ∷ second)) x
        ∙ ap (λ o. option_or o (value_at first x)) (value_at-moved_before n (drop (from_bool joined) (head ∷ second)) x h);
    behind = λ x h.
        value_at-append first (behind joined (head ∷ second)) (n + x)
        ∙ ap (λ o. option_or o (value_at first (n + x))) (value_at-moved n (drop (from_bool joined) (head ∷ second)) x)
        ∙ value_of joined head second x two seam;
  }

  pub record Appended (second all : List (ℕ × V)) : Type 0 where
    pub track : IsTrackFunction levels (n + m) all
    pub follows : Follows (record { steps = first; end = n }) (record { steps = second; end = m }) (record { steps = all; end = n + m })

  pub appended : (joined : Bool) (second all : List (ℕ × V)) → IsTrackFunction levels m second → ((i : ℕ) (d e : ℕ × V) → i + 1 ≡ length first → 0 < length second → joined ≡ is_same levels (get_or second 0 d).1 (get_or first i e).1)
      → all ≡ first ++ behind joined second → Appended second all
  appended joined [] all two seam is = absurd (omega (arith, (first_at_zero {V = V} [] two.starts.rising).0))
  appended joined (head ∷ second) all two seam is =
      let s : (i : ℕ) (e : ℕ × V) → i + 1 ≡ length first → joined ≡ is_same levels head.1 (get_or first i e).1 = λ i e h. seam i head e h (omega arith) in
      rw is (record { track = track_of joined head second two s; follows = values_of joined head second two s })

-- ---- as the code has it

rest_all : {X : Type 0} (s : ℕ) (xs : List X) → take (length xs - s) (drop s xs) ≡ drop s xs
rest_all s xs = ap (λ k. take k (drop s xs)) (sym (length-drop s xs)) ∙ take-length (drop s xs)

drop_below : {V : Type 0} (m s : ℕ) (rows : List (ℕ × V)) (k : ℕ) (d : ℕ × V) → list_all (λ start. nat_lt start m) (starts_of rows) ≡ true → k < length (drop s rows) → (get_or (drop s rows) k d).0 < m
drop_below m zero rows k d i h = below_end m rows k d i h
drop_below m (suc s) [] k d i h = absurd (omega arith)
drop_below m (suc s) (row ∷ rows) k d i h = drop_below m s rows k d (all_split (λ start. nat_lt start m) row.0 (starts_of rows) i).1 h

pub behind_fits : {V : Type 0} (n m s : ℕ) (second : List (ℕ × V)) → n ≤ LONGEST_TRACK → m ≤ LONGEST_TRACK → list_all (λ start. nat_lt start m) (starts_of second) ≡ true
    → (k : ℕ) (d : ℕ × V) → k < length (take (length second - s) (drop s second)) → (get_or (take (length second - s) (drop s second)) k d).0 + n < 4294967296
behind_fits n m s second a b i k d =
    subst (λ l. k < length l → (get_or l k d).0 + n < 4294967296) (sym (rest_all s second)) (λ h. omega (arith, drop_below m s second k d i h))

pub behind_is : {V : Type 0} (n : ℕ) (joined grown : Bool) (from : ℕ) (first given second all : List (ℕ × V)) → grown ≡ true → from ≡ from_bool joined → given ≡ second
    → all ≡ (if grown then first ++ moved n (take (length given - from) (drop from given)) else first) → all ≡ first ++ moved n (drop (from_bool joined) second)
behind_is n joined grown from first given second all ok f g e =
    e
    ∙ ap (λ b. if b then first ++ moved n (take (length given - from) (drop from given)) else first) ok
    ∙ ap (λ l. first ++ moved n l) (rest_all from given ∙ ap (λ j. drop j given) f ∙ ap (drop (from_bool joined)) g)

pub seam_of : {V : Type 0} (levels : Levels V) (len : ℕ) (joined : Bool) (first second : List (ℕ × V)) (next last : ℕ × V) → len ≡ length first → next ≡ get_or second 0 next → last ≡ get_or first (len - 1) last
    → joined ≡ is_same levels next.1 last.1 → (i : ℕ) (d e : ℕ × V) → i + 1 ≡ length first → 0 < length second → joined ≡ is_same levels (get_or second 0 d).1 (get_or first i e).1
seam_of levels len joined first second next last l a b j i d e h some =
    let here : len - 1 ≡ i = omega arith in
    let p = get_or_read second 0 next some a d in
    let q = get_or_read first i last (omega arith) (subst (λ k. last ≡ get_or first k last) here b) e in
    j ∙ ap (λ r. is_same levels r.1 last.1) p ∙ ap (λ r. is_same levels (get_or second 0 d).1 r.1) q
