-- One leg of a line: the places of its section's metres, and when an extent or an authority has some of them.
use Rattle.std.proofs.Common.{◌≡◌, ℕ, zero, suc, ◌+◌, ◌-◌, ◌<◌, ◌≤◌, min, max, Bool, false, ◌&&◌, ◌||◌, [], ◌∷◌, ◌++◌, Some, refl, ap, ap₂, sym, ◌∙◌, arith, ◌⊎◌, inl, inr, nat_lt, nat_le}
use Rattle.std.specs.Prelude.{◌==◌}
use Rattle.std.specs.Option.{option_map_or}
use Rattle.std.specs.List.{list_any, range_with_len}
use Rattle.std.proofs.lemmas.Bool.{leb-true, ltb-true, lt-ltb, le-leb, le-ltb, lt-leb, and_from, cases_Bool, or_parts, or_from, or_left, both_ways, and_left as false_before, and_right as false_behind}
use Rattle.rbc_model.specs.declared.places.Metre.{Metre}
use Rattle.rbc_model.specs.declared.places.Leg.{Leg}
use Rattle.rbc_model.specs.Tracks.{Track, metres_of, metre_of_leg}
use Rattle.rbc_model.specs.Lines.{Line, line_length, has_section, metre_at, places}
use Rattle.rbc_model.specs.Trains.{Train}
use Rattle.rbc_model.specs.Events.{stands_on}
use Rattle.rbc_model.proofs.ScanLemmas.{le_or_lt}
use Rattle.rbc_scene_laws.proofs.BasicLemmas.{and_left, and_right}
use Rattle.rbc_scene_laws.proofs.SpotLemmas.{at_place-append_left, at_place-append_right}
use Rattle.rbc_model.proofs.BasicLemmas.{same_number, if_in, if_past, or_second}

-- ---- whether a train stands on a section, by the leg's ends

-- whether the metre at the place is of the section
abbrev pub is_in : Track → ℕ → Line → ℕ → Bool
is_in track section line i = option_map_or (λ (metre : Metre). metre.section == section) (metre_at track line i) false

is_in-by : (track : Track) (section : ℕ) (line other : Line) (i j : ℕ) → metre_at track line i ≡ metre_at track other j → is_in track section line i ≡ is_in track section other j
is_in-by track section line other i j e = ap (λ o. option_map_or (λ (metre : Metre). metre.section == section) o false) e

is_in-lacks : (track : Track) (section : ℕ) (line : Line) (i : ℕ) → has_section line section ≡ false → is_in track section line i ≡ false
is_in-lacks track section [] i h = refl
is_in-lacks track section (leg ∷ line) i h =
    let m = metres_of track leg.section in
    elim (le_or_lt m i) [
      | inl past ↦
          is_in-by track section (leg ∷ line) line i (i - m) (if_past (Some (metre_of_leg track leg i)) (metre_at track line (i - m)) i m past)
          ∙ is_in-lacks track section line (i - m) ((or_parts (leg.section == section) (has_section line section) h).1)
      | inr here ↦
          ap (λ o. option_map_or (λ (metre : Metre). metre.section == section) o false) (if_in (Some (metre_of_leg track leg i)) (metre_at track line (i - m)) i m here)
          ∙ (or_parts (leg.section == section) (has_section line section) h).0
    ]

-- the leg's places are those from its start to its end
pub is_in-leg : (track : Track) (a b : Line) (leg : Leg) (i : ℕ) → has_section a leg.section ≡ false → has_section b leg.section ≡ false
    → is_in track leg.section (a ++ leg ∷ b) i ≡ (nat_le (line_length track a) i && nat_lt i (line_length track a + metres_of track leg.section))
is_in-leg track a b leg i before behind =
    let n = line_length track a in
    let m = metres_of track leg.section in
    elim (le_or_lt n i) [
      | inr front ↦
          is_in-by track leg.section (a ++ leg ∷ b) a i i (at_place-append_left (metre_of_leg track) track a (leg ∷ b) i front)
          ∙ is_in-lacks track leg.section a i before
          ∙ sym (false_before (nat_le n i) (nat_lt i (n + m)) (lt-leb n i front))
      | inl on ↦
          is_in-by track leg.section (a ++ leg ∷ b) (leg ∷ b) i (i - n) (at_place-append_right (metre_of_leg track) track a (leg ∷ b) i on)
          ∙ elim (le_or_lt m (i - n)) [
            | inl past ↦
                is_in-by track leg.section (leg ∷ b) b (i - n) (i - n - m) (if_past (Some (metre_of_leg track leg (i - n))) (metre_at track b (i - n - m)) (i - n) m past)
                ∙ is_in-lacks track leg.section b (i - n - m) behind
                ∙ sym (false_behind (nat_le n i) (nat_lt i (n + m)) (le-ltb i (n + m) (omega arith)))
            | inr here ↦
                ap (λ o. option_map_or (λ (metre : Metre). metre.section == leg.section) o false) (if_in (Some (metre_of_leg track leg (i - n))) (metre_at track b (i - n - m)) (i - n) m here)
                ∙ same_number leg.section
                ∙ sym (and_from (nat_le n i) (nat_lt i (n + m)) (le-leb n i on) (lt-ltb i (n + m) (omega arith)))
          ]
    ]

-- some number of a row passes if the row meets the stretch that passes, and only then
any_by : (test other : ℕ → Bool) (a n : ℕ) → ((i : ℕ) → test i ≡ other i) → list_any test (range_with_len a n) ≡ list_any other (range_with_len a n)
any_by test other a zero h = refl
any_by test other a (suc n) h = ap₂ (λ x y. x || y) (h a) (any_by test other (a + 1) n h)

any_between : (low high a n : ℕ) → list_any (λ i. nat_le low i && nat_lt i high) (range_with_len a n) ≡ nat_lt (max a low) (min (a + n) high)
any_between low high a zero = sym (le-ltb (max a low) (min (a + 0) high) (omega arith))
any_between low high a (suc n) =
    elim (cases_Bool (nat_le low a && nat_lt a high)) [
      | inl e ↦
          let l = leb-true low a (and_left (nat_le low a) (nat_lt a high) e) in
          let h = ltb-true a high (and_right (nat_le low a) (nat_lt a high) e) in
          or_left (nat_le low a && nat_lt a high) (list_any (λ i. nat_le low i && nat_lt i high) (range_with_len (a + 1) n)) e
          ∙ sym (lt-ltb (max a low) (min (a + suc n) high) (omega arith))
      | inr e ↦
          or_second (nat_le low a && nat_lt a high) (list_any (λ i. nat_le low i && nat_lt i high) (range_with_len (a + 1) n)) e
          ∙ any_between low high (a + 1) n
          ∙ same_test (out low high a e)
    ]
  where
    out : (low high a : ℕ) → (nat_le low a && nat_lt a high) ≡ false → (a < low) ⊎ (high ≤ a)
    out low high a e = elim (le_or_lt low a) [
      | inl on ↦ elim (le_or_lt high a) [ inl past ↦ inr past | inr here ↦ absurd (both_ways (nat_le low a && nat_lt a high) e (and_from (nat_le low a) (nat_lt a high) (le-leb low a on) (lt-ltb a high here))) ]
      | inr before ↦ inl before
    ]

    same_test : (a < low) ⊎ (high ≤ a) → nat_lt (max (a + 1) low) (min (a + 1 + n) high) ≡ nat_lt (max a low) (min (a + suc n) high)
    same_test (inl before) = elim (le_or_lt (min (a + 1 + n) high) (max (a + 1) low)) [
      | inl past ↦ le-ltb (max (a + 1) low) (min (a + 1 + n) high) past ∙ sym (le-ltb (max a low) (min (a + suc n) high) (omega arith))
      | inr here ↦ lt-ltb (max (a + 1) low) (min (a + 1 + n) high) here ∙ sym (lt-ltb (max a low) (min (a + suc n) high) (omega arith))
    ]
    same_test (inr past) = le-ltb (max (a + 1) low) (min (a + 1 + n) high) (omega arith) ∙ sym (le-ltb (max a low) (min (a + suc n) high) (omega arith))

-- whether the places from one up to another meet the places of the leg
abbrev pub meets : ℕ → ℕ → ℕ → ℕ → Bool
meets a b low high = nat_lt (max a low) (min b high)

any_on_leg : (track : Track) (a b : Line) (leg : Leg) (i j : ℕ) → has_section a leg.section ≡ false → has_section b leg.section ≡ false
    → list_any (is_in track leg.section (a ++ leg ∷ b)) (places i j) ≡ meets i j (line_length track a) (line_length track a + metres_of track leg.section)
any_on_leg track a b leg i j before behind =
    let n = line_length track a in
    let m = metres_of track leg.section in
    any_by (is_in track leg.section (a ++ leg ∷ b)) (λ k. nat_le n k && nat_lt k (n + m)) i (j - i) (λ k. is_in-leg track a b leg k before behind)
    ∙ any_between n (n + m) i (j - i)
    ∙ elim (le_or_lt j i) [
      | inl none ↦ le-ltb (max i n) (min (i + (j - i)) (n + m)) (omega arith) ∙ sym (le-ltb (max i n) (min j (n + m)) (omega arith))
      | inr some ↦ ap (λ k. nat_lt (max i n) (min k (n + m))) (let e : i + (j - i) ≡ j = omega arith in e)
    ]

-- a train stands on a section of its line if its extent or its authority meets the leg, and only then
pub stands_on-leg : (track : Track) (a b : Line) (leg : Leg) (train : Train) → train.line ≡ a ++ leg ∷ b → has_section a leg.section ≡ false → has_section b leg.section ≡ false
    → stands_on track leg.section train
    ≡ (meets train.rear train.front (line_length track a) (line_length track a + metres_of track leg.section) || meets train.from train.to (line_length track a) (line_length track a + metres_of track leg.section))
stands_on-leg track a b leg train is before behind =
    ap (λ (l : Line). list_any (is_in track leg.section l) (places train.rear train.front) || list_any (is_in track leg.section l) (places train.from train.to)) is
    ∙ ap₂ (λ x y. x || y) (any_on_leg track a b leg train.rear train.front before behind) (any_on_leg track a b leg train.from train.to before behind)

none_lacks : (test : ℕ → Bool) (a n : ℕ) → ((i : ℕ) → test i ≡ false) → list_any test (range_with_len a n) ≡ false
none_lacks test a zero h = refl
none_lacks test a (suc n) h = or_from (test a) (list_any test (range_with_len (a + 1) n)) (h a) (none_lacks test (a + 1) n h)

-- and on no section that its line lacks
pub stands_on-lacks : (track : Track) (section : ℕ) (train : Train) → has_section train.line section ≡ false → stands_on track section train ≡ false
stands_on-lacks track section train h =
    or_from (list_any (is_in track section train.line) (places train.rear train.front)) (list_any (is_in track section train.line) (places train.from train.to))
    (none_lacks (is_in track section train.line) train.rear (train.front - train.rear) (λ i. is_in-lacks track section train.line i h))
    (none_lacks (is_in track section train.line) train.from (train.to - train.from) (λ i. is_in-lacks track section train.line i h))
