-- A track run the other way is a track.
use Rattle.std.proofs.Common.{◌≡◌, ℕ, zero, suc, ◌+◌, ◌-◌, ◌<◌, ◌≤◌, inl, inr, true, false, not, List, [], ◌∷◌, ◌++◌, length, get_or, drop, Some, None, refl, arith, ap, sym, ◌∙◌, subst, nat_le, nat_lt, if◌then◌else◌}
use Rattle.std.specs.List.{list_all}
use Rattle.std.specs.Option.{option_or}
use Rattle.std.proofs.lemmas.Bool.{lt-ltb, ltb-true, le-leb, eq-eqb, lt-leb, not-true, and_from}
use Rattle.rbc_model.specs.Levels.{Levels, is_same}
use Rattle.rbc_model.specs.Profiles.{value_at, starts_of, rises_above, is_joined, IsTrackFunction, Reverses}
use Rattle.rbc_model.proofs.CountingLemmas.{both_of}
use Rattle.rbc_model.proofs.StepListLemmas.{rises_split, zero_split, all_split, value_at-some}
use Rattle.rbc_model.proofs.ScanLemmas.{le_or_lt}
use Rattle.rbc_steps.specs.Mirrored.{start_or, mirrored}
use Rattle.rbc_steps.proofs.JoinLemmas.{value_at-append, IsTrackFunction-append}
use Rattle.rbc_steps.proofs.NegatedLemmas.{and_either_way}

none_low : {V : Type 0} (low x : ℕ) (rows : List (ℕ × V)) → rises_above low (starts_of rows) ≡ true → x ≤ low → value_at rows x ≡ None
none_low low x [] e h = refl
none_low low x (row ∷ rows) e h =
    let s = rises_split low row.0 (starts_of rows) e in
    rw (none_low row.0 x rows s.1 (omega arith), lt-leb row.0 x (omega arith)) refl

last_of_push : {X : Type 0} (xs : List X) (y d : X) (i : ℕ) → i + 1 ≡ length (xs ++ y ∷ []) → get_or (xs ++ y ∷ []) i d ≡ y
last_of_push [] y d zero e = refl
last_of_push [] y d (suc i) e = absurd (omega arith)
last_of_push (x ∷ []) y d zero e = absurd (omega arith)
last_of_push (x ∷ z ∷ xs) y d zero e = absurd (omega arith)
last_of_push (x ∷ xs) y d (suc i) e = last_of_push xs y d i (omega arith)

module _ {V : Type 0} (n : ℕ) where
  -- one more row is mirrored
  pub mirrored_more : (rows : List (ℕ × V)) (k stop : ℕ) (row : ℕ × V) → k < length rows → row ≡ get_or rows k row → ((d : ℕ × V) → suc k < length rows → stop ≡ (get_or rows (suc k) d).0) → (length rows ≤ suc k → stop ≡ n)
      → mirrored n (drop (suc k) rows) ++ (n - stop, row.1) ∷ [] ≡ mirrored n (drop k rows)
  mirrored_more [] k stop row h r next last = absurd (omega arith)
  mirrored_more (first ∷ []) zero stop row h r next last = rw (last (omega arith), r) refl
  mirrored_more (first ∷ second ∷ rows) zero stop row h r next last = rw (next first (omega arith), r) refl
  mirrored_more (first ∷ rows) (suc k) stop row h r next last = mirrored_more rows k stop row (omega arith) r (λ d l. next d (omega arith)) (λ l. last (omega arith))

  -- the value at each metre that the rows hold
  mirrored_value : (row : ℕ × V) (rows : List (ℕ × V)) (x : ℕ) → rises_above row.0 (starts_of rows) ≡ true → list_all (λ start. nat_lt start n) (starts_of (row ∷ rows)) ≡ true → x < n - row.0
      → value_at (mirrored n (row ∷ rows)) x ≡ value_at (row ∷ rows) (n - 1 - x)
  mirrored_value row [] x e i h = rw (le-leb (n - n) x (omega arith), le-leb row.0 (n - 1 - x) (omega arith)) refl
  mirrored_value row (next ∷ rows) x e i h =
      let s = rises_split row.0 next.0 (starts_of rows) e in
      let a = all_split (λ start. nat_lt start n) row.0 (starts_of (next ∷ rows)) i in
      let b = all_split (λ start. nat_lt start n) next.0 (starts_of rows) a.1 in
      let below : next.0 < n = ltb-true next.0 n b.0 in
      let y = n - 1 - x in
      let turned = mirrored n (next ∷ rows) in
      let push : List (ℕ × V) = (n - next.0, row.1) ∷ [] in
      value_at-append turned push x ∙ elim (le_or_lt (n - next.0) x) [
        | inl past ↦
            ap (λ t. option_or (if t then Some row.1 else None) (value_at turned x)) (le-leb (n - next.0) x past)
            ∙ ap (λ t. option_or None (if t then Some row.1 else None)) (sym (le-leb row.0 y (omega arith)))
            ∙ ap (λ o. option_or o (if nat_le row.0 y then Some row.1 else None)) (sym (none_from next rows y s.1 (omega arith)))
        | inr before ↦
            let some = value_at-some next rows y (omega arith) in
            ap (λ t. option_or (if t then Some row.1 else None) (value_at turned x)) (lt-leb (n - next.0) x before)
            ∙ mirrored_value next rows x s.1 a.1 before
            ∙ some.1
            ∙ ap (λ o. option_or o (if nat_le row.0 y then Some row.1 else None)) (sym some.1)
      ]
    where
      none_from : (next : ℕ × V) (rows : List (ℕ × V)) (y : ℕ) → rises_above next.0 (starts_of rows) ≡ true → y < next.0 → value_at (next ∷ rows) y ≡ None
      none_from next rows y e l = rw (none_low next.0 y rows e (omega arith), lt-leb next.0 y l) refl

  module _ (levels : Levels V) where
    mirrored_track : (row : ℕ × V) (rows : List (ℕ × V)) → rises_above row.0 (starts_of rows) ≡ true → list_all (λ start. nat_lt start n) (starts_of (row ∷ rows)) ≡ true
        → list_all (λ r. levels.in_range r.1) (row ∷ rows) ≡ true → is_joined levels (row ∷ rows) ≡ true → IsTrackFunction levels (n - row.0) (mirrored n (row ∷ rows))
    mirrored_track row [] e i v j =
        let a = all_split (λ start. nat_lt start n) row.0 [] i in
        let below : row.0 < n = ltb-true row.0 n a.0 in
        record {
          starts = record { rising = and_from _ _ (eq-eqb (n - n) 0 (omega arith)) refl; inside = and_from _ _ (lt-ltb (n - n) (n - row.0) (omega arith)) refl };
          values = v;
          once = refl;
        }
    mirrored_track row (next ∷ rows) e i v j =
        let s = rises_split row.0 next.0 (starts_of rows) e in
        let a = all_split (λ start. nat_lt start n) row.0 (starts_of (next ∷ rows)) i in
        let b = all_split (λ start. nat_lt start n) next.0 (starts_of rows) a.1 in
        let below : next.0 < n = ltb-true next.0 n b.0 in
        let w = all_split (λ r. levels.in_range r.1) row (next ∷ rows) v in
        let k = both_of (not (is_same levels next.1 row.1)) (is_joined levels (next ∷ rows)) j in
        let differ : is_same levels row.1 next.1 ≡ false = and_either_way (levels.at_most row.1 next.1) (levels.at_most next.1 row.1) ∙ not-true (is_same levels next.1 row.1) k.0 in
        IsTrackFunction-append levels (n - next.0) (n - row.0) (mirrored n (next ∷ rows)) ((n - next.0, row.1) ∷ []) (omega arith)
        (mirrored_track next rows s.1 a.1 w.1 k.1)
        (λ low h. and_from _ _ (lt-ltb low (n - next.0) h) refl)
        (and_from _ _ (lt-ltb (n - next.0) (n - row.0) (omega arith)) refl)
        (and_from _ _ w.0 refl)
        refl
        (λ i d h l. let last = last_of_push (mirrored n rows) (n - start_or n rows, next.1) d i h in ap (λ r. is_same levels row.1 r.1) last ∙ differ)

    pub record Turned (rows back : List (ℕ × V)) : Type 0 where
      pub track : IsTrackFunction levels n back
      pub reverses : Reverses (record { steps = rows; end = n }) (record { steps = back; end = n })

    pub turned : (rows back : List (ℕ × V)) → IsTrackFunction levels n rows → back ≡ mirrored n rows → Turned rows back
    turned [] back track is = cc (track.starts.rising)
    turned (row ∷ rows) back track is =
        let z = zero_split row.0 (starts_of rows) track.starts.rising in
        let all : n - row.0 ≡ n = omega (arith, z.0) in
        rw is (record {
          track = subst (λ end. IsTrackFunction levels end (mirrored n (row ∷ rows))) all (mirrored_track row rows z.1 track.starts.inside track.values track.once);
          reverses = record { end = refl; values = λ x h. mirrored_value row rows x z.1 track.starts.inside (omega (arith, all)) };
        })
