-- The greatest end: the last place up to the reach whose distance from the group a message can give, if an end may lie there.
use Rattle.std.specs.List.{range_with_len, filter}
use Rattle.std.proofs.Common.{◌≡◌, ℕ, ◌+◌, ◌-◌, ◌*◌, ◌/◌, ◌%◌, ◌<◌, ◌≤◌, ◌↔◌, min, max, Bool, true, false, ◌&&◌, Option, Some, None, refl, ap, sym, subst, ◌∙◌, arith, ◌⊎◌, inl, inr, nat_lt, nat_le, ◌==◌}
use Rattle.std.specs.Prelude.{if◌then◌else◌}
use Rattle.std.proofs.lemmas.Bool.{leb-true, ltb-true, lt-ltb, le-leb, eqb-true, eq-eqb, or_cases, and_from, false_from_ne_true, or_right, both_ways}
use Rattle.rbc_model.specs.declared.places.Format.{Format}
use Rattle.rbc_model.specs.declared.places.Format.TheVariants.{Near, Far}
use Rattle.rbc_model.specs.Results.{is_from_to}
use Rattle.rbc_model.specs.Scales.{is_expressible, is_in_tens}
use Rattle.rbc_model.specs.Tracks.{Track}
use Rattle.rbc_model.specs.Trains.{Train}
use Rattle.rbc_model.specs.Scenes.{Scene}
use Rattle.rbc_model.specs.Views.{reach, last_of, is_expressible_end, greatest_end}
use Rattle.rbc_model.proofs.ScanLemmas.{IsLast, filter-numbers, filter-numbers_none, le_or_lt}
use Rattle.rbc_reach_laws.specs.Laws.{IsGreatestUpTo}
use Rattle.rbc_reach_laws.specs.Nearest.{greatest_up_to, nearest_end, is_ahead, greatest_end_by}
use Rattle.rbc_reach_laws.proofs.BasicLemmas.{and_left, and_right}
use Rattle.rbc_model.proofs.BasicLemmas.{if_true, if_false}
use Rattle.rbc_model.proofs.FrameLemmas.{limits_of}
use Rattle.rbc_model.proofs.SpellingLemmas.{within}

-- ---- distances

tens : (v : ℕ) → is_in_tens v ≡ true → (32010 ≤ v) × (v ≤ 80000) × (v % 10 ≡ 0)
tens v h =
    let range = limits_of 32010 80000 v (and_left (is_from_to 32010 80000 v) (v % 10 == 0) h) in
    (range.0, range.1, eqb-true (v % 10) 0 (and_right (is_from_to 32010 80000 v) (v % 10 == 0) h))

in_tens : (v : ℕ) → 32010 ≤ v → v ≤ 80000 → v % 10 ≡ 0 → is_expressible Far v ≡ true
in_tens v low high whole =
    or_right (is_from_to 1 32000 v) (is_in_tens v)
    (and_from (is_from_to 32010 80000 v) (v % 10 == 0) (within 32010 80000 v low high) (eq-eqb (v % 10) 0 whole))

in_metres : (v : ℕ) → 0 < v → v ≤ 32000 → is_expressible Far v ≡ true
in_metres v low high = rw (within 1 32000 v (omega arith) high) refl

-- what a message can give
far_said : (v : ℕ) → is_expressible Far v ≡ true → ((0 < v) × (v ≤ 32000)) ⊎ ((32010 ≤ v) × (v ≤ 80000) × (v % 10 ≡ 0))
far_said v h = elim (or_cases (is_from_to 1 32000 v) (is_in_tens v) h) [
  | inl near ↦ let r = limits_of 1 32000 v near in let low = r.0 in inl (omega arith, r.1)
  | inr far ↦ inr (tens v far)
]

far_below : (distance : ℕ) → distance < 32010 → IsGreatestUpTo Far distance (min distance 32000)
far_below distance h = record {
  up_to = omega arith;
  expressible = λ some. in_metres (min distance 32000) some (omega arith);
  none_between = λ other above below said. elim (far_said other said) [
    | inl near ↦ let high = near.1 in absurd (omega arith)
    | inr far ↦ let low = far.0 in absurd (omega arith)
  ];
}

far_above : (distance : ℕ) → 32010 ≤ distance → IsGreatestUpTo Far distance (min (distance / 10 * 10) 80000)
far_above distance h = record {
  up_to = omega arith;
  expressible = λ some. in_tens (min (distance / 10 * 10) 80000) (omega arith) (omega arith) (omega arith);
  none_between = λ other above below said. elim (far_said other said) [
    | inl near ↦ let high = near.1 in absurd (omega arith)
    | inr far ↦ let high = far.1 in let whole = far.2 in absurd (omega arith)
  ];
}

far_by : (distance : ℕ) (test : Bool) → nat_lt distance 32010 ≡ test → IsGreatestUpTo Far distance (if test then min distance 32000 else min (distance / 10 * 10) 80000)
far_by distance true e = far_below distance (ltb-true distance 32010 e)
far_by distance false e = far_above distance (by_order (le_or_lt 32010 distance))
  where
    by_order : (32010 ≤ distance) ⊎ (distance < 32010) → 32010 ≤ distance
    by_order (inl le) = le
    by_order (inr lt) = let test = lt-ltb distance 32010 lt in absurd cc

pub greatest_is : (format : Format) (distance : ℕ) → IsGreatestUpTo format distance (greatest_up_to format distance)
greatest_is Near distance = record {
  up_to = omega arith;
  expressible = λ some. within 1 32000 (min distance 32000) (omega arith) (omega arith);
  none_between = λ other above below said. let r = limits_of 1 32000 other said in let high = r.1 in absurd (omega arith);
}
greatest_is Far distance = far_by distance (nat_lt distance 32010) refl

-- ---- ends

ahead_said : (train : Train) (e : ℕ) → is_ahead train e ≡ true → (train.front < e) × (train.to ≤ e) × (train.origin < e)
ahead_said train e h =
    let first = and_left (nat_lt train.front e && nat_le train.to e) (nat_lt train.origin e) h in (
      ltb-true train.front e (and_left (nat_lt train.front e) (nat_le train.to e) first),
      leb-true train.to e (and_right (nat_lt train.front e) (nat_le train.to e) first),
      ltb-true train.origin e (and_right (nat_lt train.front e && nat_le train.to e) (nat_lt train.origin e) h),
    )

ahead_is : (train : Train) (e : ℕ) → train.front < e → train.to ≤ e → train.origin < e → is_ahead train e ≡ true
ahead_is train e a b c =
    and_from (nat_lt train.front e && nat_le train.to e) (nat_lt train.origin e)
    (and_from (nat_lt train.front e) (nat_le train.to e) (lt-ltb train.front e a) (le-leb train.to e b)) (lt-ltb train.origin e c)

module _ (track : Track) (train : Train) where
  -- whether a message can give the place
  abbrev test : ℕ → Bool
  test i = is_expressible_end track train i

  test_said : (i : ℕ) → test i ≡ true → (train.origin < i) × (is_expressible track.format (i - train.origin) ≡ true)
  test_said i h = (
    ltb-true train.origin i (and_left (nat_lt train.origin i) (is_expressible track.format (i - train.origin)) h),
    and_right (nat_lt train.origin i) (is_expressible track.format (i - train.origin)) h,
  )

  module _ (r : ℕ) where
    abbrev greatest : ℕ
    greatest = greatest_up_to track.format (r - train.origin)

    abbrev last : ℕ
    last = nearest_end track.format train r

    is : IsGreatestUpTo track.format (r - train.origin) greatest
    is = greatest_is track.format (r - train.origin)

    -- where it lies beyond the group a message can give it, and it does not lie beyond the reach
    last_passes : train.origin < last → test last ≡ true
    last_passes h =
        let some : 0 < greatest = omega arith in
        let same : greatest ≡ last - train.origin = omega arith in
        and_from (nat_lt train.origin last) (is_expressible track.format (last - train.origin)) (lt-ltb train.origin last h)
        (subst (λ d. is_expressible track.format d ≡ true) same (is.expressible some))

    last_inside : train.origin < last → last ≤ r
    last_inside h = let up = is.up_to in omega arith

    -- no place between it and the reach can be given
    pub none_behind : (i : ℕ) → test i ≡ true → i ≤ r → i ≤ last
    none_behind i h inside =
        let t = test_said i h in
        let beyond = t.0 in
        by_order t.1 beyond (le_or_lt (i - train.origin) greatest)
      where
        by_order : is_expressible track.format (i - train.origin) ≡ true → train.origin < i → (i - train.origin ≤ greatest) ⊎ (greatest < i - train.origin) → i ≤ last
        by_order said beyond (inl low) = omega arith
        by_order said beyond (inr high) = absurd (is.none_between (i - train.origin) high (omega arith) said)

    -- the last place that passes is this one
    found : (i : ℕ) → IsLast test (max (train.front + 1) train.to) (r + 1 - max (train.front + 1) train.to) i → (i ≡ last) × (is_ahead train last ≡ true)
    found i l =
        let low = l.low in
        let high = l.high in
        let beyond = (test_said i l.passes).0 in
        let below = none_behind i l.passes (omega arith) in
        let e : i ≡ last = by_order beyond below (le_or_lt last i) in
        (e, ahead_is train last (omega arith) (omega arith) (omega arith))
      where
        by_order : train.origin < i → i ≤ last → (last ≤ i) ⊎ (i < last) → i ≡ last
        by_order beyond below (inl h) = omega arith
        by_order beyond below (inr h) =
            let inside = last_inside (omega arith) in
            let low = l.low in
            absurd (both_ways (test last) (l.behind last h (omega arith)) (last_passes (omega arith)))

    by_last : (o : Option ℕ) → last_of (filter test (range_with_len (max (train.front + 1) train.to) (r + 1 - max (train.front + 1) train.to))) ≡ o → o ≡ greatest_end_by track.format train r
    by_last (Some i) h =
        let f = found i (filter-numbers test (max (train.front + 1) train.to) (r + 1 - max (train.front + 1) train.to) i h) in
        ap Some f.0 ∙ sym (if_true (is_ahead train last) (Some last) None f.1)
    by_last None h =
        sym (if_false (is_ahead train last) (Some last) None
        (false_from_ne_true (is_ahead train last) (λ b.
        let x = ahead_said train last b in
        let front = x.0 in
        let to = x.1 in
        let origin = x.2 in
        let inside = last_inside origin in
        both_ways (test last) (filter-numbers_none test (max (train.front + 1) train.to) (r + 1 - max (train.front + 1) train.to) h last (omega arith) (omega arith))
        (last_passes origin))))

-- the greatest end is told by the reach
pub greatest_end-by_reach : (track : Track) (scene : Scene) (train : Train) → greatest_end track scene train ≡ greatest_end_by track.format train (reach track scene train)
greatest_end-by_reach track scene train = by_last track train (reach track scene train) (greatest_end track scene train) refl

-- ---- where there is none

some_or_none : (o : Option ℕ) → ((e : ℕ) × (o ≡ Some e)) ⊎ (o ≡ None)
some_or_none None = inr refl
some_or_none (Some e) = inl (e, refl)

module _ (track : Track) (scene : Scene) (train : Train) where
  abbrev NoEndIs : Type 0
  NoEndIs = (end : ℕ) → train.front < end → train.to ≤ end → end ≤ reach track scene train → is_expressible_end track train end ≡ true → ⊥

  none_there : greatest_end track scene train ≡ None → NoEndIs
  none_there h end front to inside said =
      both_ways (is_expressible_end track train end) (filter-numbers_none (is_expressible_end track train) (max (train.front + 1) train.to) (reach track scene train + 1 - max (train.front + 1) train.to) h end (omega arith) (omega arith))
      said

  none_found : NoEndIs → greatest_end track scene train ≡ None
  none_found none = elim (some_or_none (greatest_end track scene train)) [
    | inl some ↦
        let l = filter-numbers (is_expressible_end track train) (max (train.front + 1) train.to) (reach track scene train + 1 - max (train.front + 1) train.to) some.0 some.1 in
        let low = l.low in
        let high = l.high in
        absurd (none some.0 (omega arith) (omega arith) (omega arith) l.passes)
    | inr absent ↦ absent
  ]

  pub blocked_where_none : (greatest_end track scene train ≡ None) ↔ NoEndIs
  blocked_where_none = (none_there, none_found)

-- ---- what a greatest end is

-- it lies beyond the group, at a distance that a message can give, and not beyond the reach
pub record IsEndBefore (track : Track) (train : Train) (reached end : ℕ) : Type 0 where
  pub ahead : train.origin < end
  pub expressible : is_expressible track.format (end - train.origin) ≡ true
  pub before : end ≤ reached

pub end_before : (track : Track) (scene : Scene) (train : Train) (end : ℕ) → greatest_end track scene train ≡ Some end → IsEndBefore track train (reach track scene train) end
end_before track scene train end h =
    let l = filter-numbers (is_expressible_end track train) (max (train.front + 1) train.to) (reach track scene train + 1 - max (train.front + 1) train.to) end h in
    let low = l.low in
    let high = l.high in
    let said = test_said track train end l.passes in
    record { ahead = said.0; expressible = said.1; before = omega arith }
