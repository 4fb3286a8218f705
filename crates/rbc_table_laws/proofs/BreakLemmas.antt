-- The breaks of a track: they rise from 0 to its end, and where a place between two of them may be a cut, the track has one value there.
use Rattle.std.proofs.Common.{◌≡◌, refl, sym, ◌∙◌, arith, ℕ, suc, ◌+◌, ◌-◌, ◌*◌, ◌/◌, ◌%◌, ◌<◌, ◌≤◌, ◌⊎◌, inl, inr, true, false, List, [], ◌∷◌, length, get_or, nat_le, nat_lt, div-add-mod', mod-lt, mul-le-mul_right, lt_of_mul-lt-mul_right, suc-mul}
use Rattle.std.specs.List.{list_all}
use Rattle.std.proofs.lemmas.Bool.{le-leb, ltb-true, cases_lt}
use Rattle.std.proofs.lemmas.Bool.Decides.{nat_tests}
use Rattle.rbc_model.specs.Levels.{Levels, IsLawful}
use Rattle.rbc_model.specs.Profiles.{value_at, starts_of, IsTrackFunction}
use Rattle.rbc_model.specs.PriceTables.{rounded_down, rounded_up, with_number, breaks_of, break_at, stretch_count}
use Rattle.rbc_model.proofs.RunLemmas.{IsCovered}
use Rattle.rbc_model.proofs.StepListLemmas.{zero_split, all_split, value_at-some, value_in_range}
use Rattle.rbc_table_laws.proofs.RisingNumberLemmas.{Rises, Has, AreUpTo, rises_with, has_with, keeps_with, up_to_with, rises_at, not_between, has_first, has_last, up_to_at, has_some, AreWhole, whole_with, whole_at}
use Rattle.std.proofs.Math.Nat.{mul-mod_left}
use Rattle.rbc_table_laws.proofs.ChainLemmas.{AreBreaksInUnits}

-- ---- multiples of the unit

module _ (unit : ℕ) (some : 0 < unit) where
  pub down_below : (s : ℕ) → rounded_down unit s ≤ s
  down_below s = let whole = div-add-mod' s unit in omega arith

  pub up_above : (s : ℕ) → s ≤ rounded_up unit s
  up_above s =
      let whole = div-add-mod' (s + (unit - 1)) unit in
      let part = mod-lt (s + (unit - 1)) some in
      omega arith

  -- what is rounded down below a multiple is below it
  pub above_down : (s x : ℕ) → x % unit ≡ 0 → rounded_down unit s < x → s < x
  above_down s x e h =
      let whole = div-add-mod' x unit in
      let mine = div-add-mod' s unit in
      let part = mod-lt s some in
      let less : s / unit * unit < x / unit * unit = omega arith in
      let fewer = lt_of_mul-lt-mul_right unit less in
      let next : suc (s / unit) * unit ≤ x / unit * unit = mul-le-mul_right unit fewer in
      let more = suc-mul (s / unit) unit in
      omega arith

  -- what is rounded up above a multiple is above it
  pub below_up : (s x : ℕ) → x % unit ≡ 0 → x < rounded_up unit s → x < s
  below_up s x e h =
      let whole = div-add-mod' x unit in
      let mine = div-add-mod' (s + (unit - 1)) unit in
      let less : x / unit * unit < (s + (unit - 1)) / unit * unit = omega arith in
      let fewer = lt_of_mul-lt-mul_right unit less in
      let next : suc (x / unit) * unit ≤ (s + (unit - 1)) / unit * unit = mul-le-mul_right unit fewer in
      let more = suc-mul (x / unit) unit in
      omega arith

  -- ---- the list of the breaks

  pub breaks_rise : (n : ℕ) (starts : List ℕ) → Rises 0 (breaks_of unit n starts)
  breaks_rise n [] = (omega arith, tt)
  breaks_rise n (start ∷ starts) =
      rises_with 0 (rounded_down unit start) (with_number (rounded_up unit start) (breaks_of unit n starts)) (omega arith)
      (rises_with 0 (rounded_up unit start) (breaks_of unit n starts) (omega arith) (breaks_rise n starts))

  keeps_both : (z n start : ℕ) (starts : List ℕ) → Has z (breaks_of unit n starts) → Has z (breaks_of unit n (start ∷ starts))
  keeps_both z n start starts has =
      keeps_with z (rounded_down unit start) (with_number (rounded_up unit start) (breaks_of unit n starts)) (keeps_with z (rounded_up unit start) (breaks_of unit n starts) has)

  pub has_end : (n : ℕ) (starts : List ℕ) → Has n (breaks_of unit n starts)
  has_end n [] = inl refl
  has_end n (start ∷ starts) = keeps_both n n start starts (has_end n starts)

  pub has_down : (n s : ℕ) (starts : List ℕ) → Has s starts → Has (rounded_down unit s) (breaks_of unit n starts)
  has_down n s [] has = absurd has
  has_down n s (start ∷ starts) (inl e) = rw e (has_with (rounded_down unit start) (with_number (rounded_up unit start) (breaks_of unit n starts)))
  has_down n s (start ∷ starts) (inr has) = keeps_both (rounded_down unit s) n start starts (has_down n s starts has)

  pub has_up : (n s : ℕ) (starts : List ℕ) → Has s starts → Has (rounded_up unit s) (breaks_of unit n starts)
  has_up n s [] has = absurd has
  has_up n s (start ∷ starts) (inl e) =
      rw e (keeps_with (rounded_up unit start) (rounded_down unit start) (with_number (rounded_up unit start) (breaks_of unit n starts)) (has_with (rounded_up unit start) (breaks_of unit n starts)))
  has_up n s (start ∷ starts) (inr has) = keeps_both (rounded_up unit s) n start starts (has_up n s starts has)

  module _ (n : ℕ) (whole : n % unit ≡ 0) where
    up_inside : (s : ℕ) → s < n → rounded_up unit s ≤ n
    up_inside s h = elim (cases_lt n (rounded_up unit s)) [
      | inl above ↦ let low = below_up s n whole above in absurd (omega arith)
      | inr below ↦ below
    ]

    breaks_inside : (starts : List ℕ) → list_all (λ start. nat_lt start n) starts ≡ true → AreUpTo n (breaks_of unit n starts)
    breaks_inside [] inside = (omega arith, tt)
    breaks_inside (start ∷ starts) inside =
        let a = all_split (λ s. nat_lt s n) start starts inside in
        let first = ltb-true start n a.0 in
        let down = down_below start in
        up_to_with n (rounded_down unit start) (with_number (rounded_up unit start) (breaks_of unit n starts)) (omega arith)
        (up_to_with n (rounded_up unit start) (breaks_of unit n starts) (up_inside start first) (breaks_inside starts a.1))

    pub breaks_whole : (starts : List ℕ) → AreWhole unit (breaks_of unit n starts)
    breaks_whole [] = (whole, tt)
    breaks_whole (start ∷ starts) =
        whole_with unit (rounded_down unit start) (with_number (rounded_up unit start) (breaks_of unit n starts)) (mul-mod_left (start / unit) unit)
        (whole_with unit (rounded_up unit start) (breaks_of unit n starts) (mul-mod_left ((start + (unit - 1)) / unit) unit) (breaks_whole starts))

    -- no run starts between two breaks, where a place between them may be a cut
    no_start : (starts : List ℕ) (i x y s : ℕ) → suc i < length (breaks_of unit n starts) → get_or (breaks_of unit n starts) i 0 < x → x < get_or (breaks_of unit n starts) (suc i) 0
        → x % unit ≡ 0 → y < get_or (breaks_of unit n starts) (suc i) 0 → Has s starts → (s ≤ get_or (breaks_of unit n starts) i 0) ⊎ (y < s)
    no_start starts i x y s h low high cut below has =
        go (not_between 0 (rounded_down unit s) (breaks_of unit n starts) i h (breaks_rise n starts) (has_down n s starts has))
        (not_between 0 (rounded_up unit s) (breaks_of unit n starts) i h (breaks_rise n starts) (has_up n s starts has))
      where
        go : (rounded_down unit s ≤ get_or (breaks_of unit n starts) i 0) ⊎ (get_or (breaks_of unit n starts) (suc i) 0 ≤ rounded_down unit s)
            → (rounded_up unit s ≤ get_or (breaks_of unit n starts) i 0) ⊎ (get_or (breaks_of unit n starts) (suc i) 0 ≤ rounded_up unit s)
            → (s ≤ get_or (breaks_of unit n starts) i 0) ⊎ (y < s)
        go d (inl u) = let up = up_above s in inl (omega arith)
        go (inr d) u = let down = down_below s in inr (omega arith)
        go (inl d) (inr u) = let a = above_down s x cut (omega arith) in let b = below_up s x cut (omega arith) in absurd (omega arith)

-- ---- the track

same_test : (s a y : ℕ) → a ≤ y → (s ≤ a) ⊎ (y < s) → nat_le s y ≡ nat_le s a
same_test s a y h (inl low) = le-leb s y (omega arith) ∙ sym (le-leb s a low)
same_test s a y h (inr high) = not_le s y high ∙ sym (not_le s a (omega arith))
  where
    not_le : (a b : ℕ) → b < a → nat_le a b ≡ false
    not_le a b h = grind (arith, nat_tests)

module _ {V : Type 0} where
  -- where no run starts the value stays
  value_same : (runs : List (ℕ × V)) (a y : ℕ) → a ≤ y → ((s : ℕ) → Has s (starts_of runs) → (s ≤ a) ⊎ (y < s)) → value_at runs y ≡ value_at runs a
  value_same [] a y h none = refl
  value_same (run ∷ runs) a y h none =
      rw (value_same runs a y h (λ s has. none s (inr has)), same_test run.0 a y h (none run.0 (inl refl))) refl

module _ {V : Type 0} (levels : Levels V) where
  pub covered_of : (lawful : IsLawful levels) (n : ℕ) (runs : List (ℕ × V)) → IsTrackFunction levels n runs → IsCovered levels lawful n (value_at runs)
  covered_of lawful n [] track = let none = track.starts.rising in absurd (cc)
  covered_of lawful n (run ∷ runs) track = λ x h.
      let z = zero_split run.0 (starts_of runs) track.starts.rising in
      let first = z.0 in
      let v = value_at-some run runs x (omega arith) in
      (v.0, v.1, value_in_range levels (run ∷ runs) x v.0 track.values v.1)

  -- a track has a metre
  pub track_some : (n : ℕ) (runs : List (ℕ × V)) → IsTrackFunction levels n runs → 0 < n
  track_some n [] track = let none = track.starts.rising in absurd (cc)
  track_some n (run ∷ runs) track =
      let first = ltb-true run.0 n (all_split (λ s. nat_lt s n) run.0 (starts_of runs) track.starts.inside).0 in
      omega arith

  module _ (lawful : IsLawful levels) (unit limit n : ℕ) (some : 0 < unit) (whole : n % unit ≡ 0) (runs : List (ℕ × V)) (track : IsTrackFunction levels n runs) where
    pub some_breaks : 0 < length (breaks_of unit n (starts_of runs))
    some_breaks = has_some n (breaks_of unit n (starts_of runs)) (has_end unit some n (starts_of runs))

    has_zero : (runs : List (ℕ × V)) → IsTrackFunction levels n runs → Has 0 (starts_of runs)
    has_zero [] track = let none = track.starts.rising in absurd (cc)
    has_zero (run ∷ runs) track = inl (sym (zero_split run.0 (starts_of runs) track.starts.rising).0)

    pub first_is : get_or (breaks_of unit n (starts_of runs)) 0 0 ≡ 0
    first_is =
        let low = has_first 0 (rounded_down unit 0) (breaks_of unit n (starts_of runs)) (breaks_rise unit some n (starts_of runs)) (has_down unit some n 0 (starts_of runs) (has_zero runs track)) in
        let zero_is = down_below unit some 0 in
        omega arith

    pub last_is : get_or (breaks_of unit n (starts_of runs)) (length (breaks_of unit n (starts_of runs)) - 1) 0 ≡ n
    last_is =
        let count = some_breaks in
        let low = has_last 0 n (breaks_of unit n (starts_of runs)) (length (breaks_of unit n (starts_of runs)) - 1) (omega arith) (breaks_rise unit some n (starts_of runs)) (has_end unit some n (starts_of runs)) in
        let high = up_to_at n (breaks_of unit n (starts_of runs)) (length (breaks_of unit n (starts_of runs)) - 1) (omega arith) (breaks_inside unit some n whole (starts_of runs) track.starts.inside) in
        omega arith

    pub at_most_end : (i : ℕ) → i < length (breaks_of unit n (starts_of runs)) → get_or (breaks_of unit n (starts_of runs)) i 0 ≤ n
    at_most_end i h = up_to_at n (breaks_of unit n (starts_of runs)) i h (breaks_inside unit some n whole (starts_of runs) track.starts.inside)

    pub break_whole : (i : ℕ) → i < stretch_count levels unit limit n runs → break_at levels unit limit n runs i % unit ≡ 0
    break_whole i h = whole_at unit (breaks_of unit n (starts_of runs)) i (omega arith) (breaks_whole unit some n whole (starts_of runs))

    pub are_breaks : AreBreaksInUnits levels unit limit n (value_at runs) (stretch_count levels unit limit n runs) (break_at levels unit limit n runs)
    are_breaks = record {
      rise = λ i h. rises_at 0 (breaks_of unit n (starts_of runs)) i (omega arith) (breaks_rise unit some n (starts_of runs));
      first = first_is;
      last = last_is;
      alike = λ i x h low high cut.
          let end = at_most_end (suc i) (omega arith) in
          let here = covered_of lawful n runs track (get_or (breaks_of unit n (starts_of runs)) i 0) (omega arith) in (
            here.0,
            λ y from below.
                value_same runs (get_or (breaks_of unit n (starts_of runs)) i 0) y from
                (λ s has. no_start unit some n whole (starts_of runs) i x y s (omega arith) low high cut below has)
                ∙ here.1,
          );
    }
