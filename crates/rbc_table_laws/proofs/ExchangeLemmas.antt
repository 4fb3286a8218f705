-- Cuts moved to breaks: steps with cuts at any place lose no less than some way over the breaks costs.
-- A place between two breaks lies where all metres are alike. Of the two steps that meet there the cheaper one is
-- stretched up to a break, and the dearer one loses its metres there; which one is cheaper is known only once both are.
use Rattle.std.proofs.Common.{◌≡◌, refl, ap, sym, arith, ℕ, zero, suc, ◌+◌, ◌-◌, ◌<◌, ◌≤◌, ◌⊎◌, inl, inr, List, [], ◌∷◌, length}
use Rattle.std.proofs.lemmas.Bool.{cases_lt}
use Rattle.rbc_model.proofs.BasicLemmas.{next_or_at_most}
use Rattle.rbc_table_laws.proofs.WayLemmas.{Reach, reach_more, reach_on}

-- the values; what one loses over the metres before a place; whether one may be given between two places; m stretches
-- between breaks; what a step from break to break costs
module _ {V : Type 0} (spent : V → ℕ → ℕ) (May : V → ℕ → ℕ → Type 0) (m : ℕ) (break : ℕ → ℕ) (cost : ℕ → ℕ → ℕ) where
  -- over stretch i the first value loses no more than the second
  abbrev pub IsCheaper : ℕ → V → V → Type 0
  IsCheaper i v w = (x y : ℕ) → break i ≤ x → x ≤ y → y ≤ break (suc i) → spent v y + spent w x ≤ spent w y + spent v x

  -- all metres of stretch i are alike
  pub record IsFlat (i : ℕ) : Type 0 where
    pub back : (v : V) (x y : ℕ) → break i ≤ x → x < break (suc i) → x < y → May v x y → May v (break i) y
    pub onward : (v : V) (x y : ℕ) → x ≤ break i → break i < y → y ≤ break (suc i) → May v x y → May v x (break (suc i))
    pub cheaper : (v w : V) → IsCheaper i v w ⊎ IsCheaper i w v

  pub record IsWorld : Type 0 where
    pub spent_rises : (v : V) (x y : ℕ) → x ≤ y → spent v x ≤ spent v y
    pub narrower : (v : V) (x y x' y' : ℕ) → x ≤ x' → y' ≤ y → May v x y → May v x' y'
    pub lowest : (v : V) (i i' : ℕ) → i < i' → i' ≤ m → May v (break i) (break i') → cost i i' + spent v (break i) ≤ spent v (break i')
    pub breaks_rise : (i : ℕ) → i < m → break i < break (suc i)
    pub first_break : break 0 ≡ 0

  -- k steps up to place x in stretch i, and from there v up to the stretch's end: they lose no less than
  -- a way to the stretch's start and v over all of it, or than a way to its end
  abbrev IsEither : ℕ → ℕ → ℕ → ℕ → V → Type 0
  IsEither k i x lost v =
      ((price : ℕ) × Reach cost k i price × (price + spent v x ≤ lost + spent v (break i)))
      ⊎ ((price : ℕ) × Reach cost k (suc i) price × (price + spent v x ≤ lost + spent v (break (suc i))))

  abbrev IsNear : ℕ → ℕ → ℕ → ℕ → Type 0
  IsNear k i x lost = (v : V) → May v (break i) (break (suc i)) → IsEither k i x lost v

  -- k steps up to place x in stretch i lose so much
  abbrev IsAt : ℕ → ℕ → ℕ → ℕ → Type 0
  IsAt k i x lost = ((x ≡ break i) × Reach cost k i lost) ⊎ (IsFlat i × IsNear k i x lost)

  module _ (world : IsWorld) where
    breaks_up : (i j : ℕ) → i ≤ j → j ≤ m → break i ≤ break j
    breaks_up i zero h inside = let same : break i ≡ break 0 = ap break (omega arith) in omega arith
    breaks_up i (suc j) h inside = elim (next_or_at_most i j h) [
      | inl e ↦ let same : break i ≡ break (suc j) = ap break e in omega arith
      | inr l ↦ let before = breaks_up i j l (omega arith) in let up = world.breaks_rise j (omega arith) in omega arith
    ]

    next_or_later : (i to : ℕ) → i < to → (to ≡ suc i) ⊎ (suc i < to)
    next_or_later i to h = grind arith

    -- one step more, up to break `to`
    module _ (k i x lost : ℕ) (v : V) (to after : ℕ) (low : break i ≤ x) (high : x < break (suc i)) (rises : i < to) (inside : to ≤ m)
        (may : May v x (break to)) (loses : lost + spent v (break to) ≤ after + spent v x) where
      from_start : May v (break i) (break to) → (price : ℕ) × Reach cost k i price × (price + spent v x ≤ lost + spent v (break i)) → Reach cost (suc k) to after
      from_start all r =
          let step = world.lowest v i to rises inside all in
          let sum = r.2 in
          reach_on cost k i to r.0 after rises (omega arith) r.1

      from_end : (to ≡ suc i) ⊎ (suc i < to) → (price : ℕ) × Reach cost k (suc i) price × (price + spent v x ≤ lost + spent v (break (suc i))) → Reach cost (suc k) to after
      from_end (inl e) r =
          let sum = r.2 in
          let same : spent v (break to) ≡ spent v (break (suc i)) = ap (λ j. spent v (break j)) e in
          rw e (reach_more cost k (suc i) r.0 after (omega arith) r.1)
      from_end (inr later) r =
          let sum = r.2 in
          let step = world.lowest v (suc i) to later inside (world.narrower v x (break to) (break (suc i)) (break to) (omega arith) (omega arith) may) in
          reach_on cost k (suc i) to r.0 after later (omega arith) r.1

      whole : IsFlat i → May v (break i) (break to)
      whole flat = let up = breaks_up (suc i) to (omega arith) inside in flat.back v x (break to) low high (omega arith) may

      from_either : IsFlat i → IsEither k i x lost v → Reach cost (suc k) to after
      from_either flat (inl r) = from_start (whole flat) r
      from_either flat (inr r) = from_end (next_or_later i to rises) r

      advance : IsAt k i x lost → Reach cost (suc k) to after
      advance (inl here) =
          let e = here.0 in
          let same : spent v x ≡ spent v (break i) = ap (spent v) e in
          from_start (world.narrower v x (break to) (break i) (break to) (omega arith) (omega arith) may) (lost, here.1, omega arith)
      advance (inr near) =
          let up = breaks_up (suc i) to (omega arith) inside in
          from_either near.0 (near.1 v (world.narrower v (break i) (break to) (break i) (break (suc i)) (omega arith) (omega arith) (whole near.0)))

    near_of : (k i x lost : ℕ) → IsAt k i x lost → IsNear k i x lost
    near_of k i x lost (inl here) v may = let same : spent v x ≡ spent v (break i) = ap (spent v) here.0 in inl (lost, here.1, omega arith)
    near_of k i x lost (inr near) v may = near.1 v may

    -- one step more, up to a place in the same stretch
    module _ (k i x lost : ℕ) (w : V) (y after : ℕ) (stretch : i < m) (low : break i ≤ x) (rises : x < y) (high : y < break (suc i))
        (may : May w x y) (loses : lost + spent w y ≤ after + spent w x) (flat : IsFlat i) where
      -- the next value is cheaper
      stay_cheaper : (v : V) → IsCheaper i v w → IsEither k i x lost v → IsEither (suc k) i y after v
      stay_cheaper v cheap (inl r) =
          let c = cheap x y low (omega arith) (omega arith) in
          let sum = r.2 in
          inl (r.0, reach_more cost k i r.0 r.0 (omega arith) r.1, omega arith)
      stay_cheaper v cheap (inr r) =
          let c = cheap x y low (omega arith) (omega arith) in
          let sum = r.2 in
          inr (r.0, reach_more cost k (suc i) r.0 r.0 (omega arith) r.1, omega arith)

      all_of : May w (break i) (break (suc i))
      all_of = flat.onward w (break i) y (omega arith) (omega arith) (omega arith) (flat.back w x y low (omega arith) rises may)

      -- the step's own value is
      stay_dearer : (v : V) → IsCheaper i w v → IsEither k i x lost w → IsEither (suc k) i y after v
      stay_dearer v cheap (inl r) =
          let c = cheap y (break (suc i)) (omega arith) (omega arith) (omega arith) in
          let sum = r.2 in
          let step = world.lowest w i (suc i) (omega arith) (omega arith) all_of in
          inr (r.0 + cost i (suc i), reach_on cost k i (suc i) r.0 (r.0 + cost i (suc i)) (omega arith) (omega arith) r.1, omega arith)
      stay_dearer v cheap (inr r) =
          let c = cheap y (break (suc i)) (omega arith) (omega arith) (omega arith) in
          let sum = r.2 in
          inr (r.0, reach_more cost k (suc i) r.0 r.0 (omega arith) r.1, omega arith)

      stay_either : (v : V) → IsNear k i x lost → May v (break i) (break (suc i)) → IsCheaper i v w ⊎ IsCheaper i w v → IsEither (suc k) i y after v
      stay_either v near fits (inl cheap) = stay_cheaper v cheap (near v fits)
      stay_either v near fits (inr cheap) = stay_dearer v cheap (near w all_of)

      stay : IsAt k i x lost → IsAt (suc k) i y after
      stay at = inr (flat, λ v fits. stay_either v (near_of k i x lost at) fits (flat.cheaper v w))

    -- one step more, up to a place in a later stretch
    module _ (k i x lost : ℕ) (w : V) (i' y after : ℕ) (low : break i ≤ x) (high : x < break (suc i)) (rises : i < i') (inside : i' < m)
        (low' : break i' ≤ y) (high' : y < break (suc i')) (may : May w x y) (loses : lost + spent w y ≤ after + spent w x) (at : IsAt k i x lost) where
      move_break : y ≡ break i' → IsAt (suc k) i' y after
      move_break e =
          let same : spent w y ≡ spent w (break i') = ap (spent w) e in
          inl (e, advance k i x lost w i' after low high rises (omega arith) (world.narrower w x y x (break i') (omega arith) (omega arith) may) (omega arith) at)

      start_after : ℕ
      start_after = lost + spent w (break i') - spent w x

      end_after : ℕ
      end_after = lost + spent w (break (suc i')) - spent w x

      move_either : (v : V) → IsFlat i' → break i' < y → IsCheaper i' v w ⊎ IsCheaper i' w v → IsEither (suc k) i' y after v
      unfolding start_after end_after
      move_either v flat above (inl cheap) =
          let c = cheap (break i') y (omega arith) low' (omega arith) in
          let up = breaks_up (suc i) i' (omega arith) (omega arith) in
          let more = world.spent_rises w x (break i') (omega arith) in
          inl (start_after, advance k i x lost w i' start_after low high rises (omega arith) (world.narrower w x y x (break i') (omega arith) (omega arith) may) (omega arith) at, omega arith)
      move_either v flat above (inr cheap) =
          let c = cheap y (break (suc i')) low' (omega arith) (omega arith) in
          let up = breaks_up (suc i) i' (omega arith) (omega arith) in
          let more = world.spent_rises w x (break (suc i')) (omega arith) in
          inr (end_after, advance k i x lost w (suc i') end_after low high (omega arith) (omega arith) (flat.onward w x y (omega arith) above (omega arith) may) (omega arith) at, omega arith)

      at_or_above : (y ≡ break i') ⊎ (break i' < y)
      at_or_above = let h = low' in grind arith

      move : (break i' < y → IsFlat i') → IsAt (suc k) i' y after
      move flat = elim at_or_above [
        | inl e ↦ move_break e
        | inr above ↦ inr (flat above, λ v fits. move_either v (flat above) above ((flat above).cheaper v w))
      ]

    -- the stretch of a place
    pub record IsIn (x : ℕ) : Type 0 where
      pub stretch : ℕ
      pub inside : stretch < m
      pub low : break stretch ≤ x
      pub high : x < break (suc stretch)

    pub find_in : (count x : ℕ) → count ≤ m → x < break count → IsIn x
    find_in zero x room h = let first = world.first_break in absurd (omega arith)
    find_in (suc count) x room h = elim (cases_lt x (break count)) [
      | inl before ↦ find_in count x (omega arith) before
      | inr low ↦ record { stretch = count; inside = omega arith; low = low; high = h }
    ]

    -- ---- lists of steps

    -- what is lost before each place
    module _ (lost : ℕ → ℕ) where
      -- from place x on value v is given up to the next step's start
      abbrev pub IsChain : ℕ → V → List (ℕ × V) → Type 0
      IsChain x v [] = (x < break m) × May v x (break m) × (lost (break m) + spent v x ≡ lost x + spent v (break m))
      IsChain x v (step ∷ later) =
          (x < step.0) × May v x step.0 × (lost step.0 + spent v x ≡ lost x + spent v step.0) × (step.0 < break m)
          × ((i : ℕ) → i < m → break i < step.0 → step.0 < break (suc i) → IsFlat i) × IsChain step.0 step.1 later

      same_or_later : (i i' : ℕ) → (i' < i) ⊎ (i' ≡ i) ⊎ (i < i')
      same_or_later i i' = grind arith

      on_to : (k i x : ℕ) (v : V) (y : ℕ) → i < m → break i ≤ x → x < break (suc i) → IsAt k i x (lost x) → x < y → May v x y
          → lost y + spent v x ≡ lost x + spent v y → ((j : ℕ) → j < m → break j < y → y < break (suc j) → IsFlat j)
          → (there : IsIn y) → (there.stretch < i) ⊎ (there.stretch ≡ i) ⊎ (i < there.stretch) → IsAt (suc k) there.stretch y (lost y)
      on_to k i x v y stretch low high at rises may loses flat there (inl before) =
          let up = breaks_up (suc there.stretch) i (omega arith) (omega arith) in let below = there.high in absurd (omega arith)
      on_to k i x v y stretch low high at rises may loses flat there (inr (inl same)) =
          let below : y < break (suc i) = (let e : break (suc there.stretch) ≡ break (suc i) = ap (λ j. break (suc j)) same in let h = there.high in omega arith) in
          rw same (stay k i x (lost x) v y (lost y) stretch low rises below may (omega arith) (flat i stretch (omega arith) below) at)
      on_to k i x v y stretch low high at rises may loses flat there (inr (inr later)) =
          move k i x (lost x) v there.stretch y (lost y) low high later there.inside there.low there.high may (omega arith) at (λ above. flat there.stretch there.inside above there.high)

      pub reach_of : (k i x : ℕ) (v : V) (later : List (ℕ × V)) → i < m → break i ≤ x → x < break (suc i) → IsAt k i x (lost x) → IsChain x v later
          → Reach cost (suc k + length later) m (lost (break m))
      reach_of k i x v [] stretch low high at chain =
          let loses = chain.2 in
          let count : suc k + 0 ≡ suc k = omega arith in
          rw count (advance k i x (lost x) v m (lost (break m)) low high stretch (omega arith) chain.1 (omega arith) at)
      reach_of k i x v (step ∷ later) stretch low high at chain =
          let there = find_in m step.0 (omega arith) chain.3 in
          let next = on_to k i x v step.0 stretch low high at chain.0 chain.1 chain.2 chain.4 there (same_or_later i there.stretch) in
          let count : suc k + suc (length later) ≡ suc (suc k) + length later = omega arith in
          rw count (reach_of (suc k) there.stretch step.0 step.1 later there.inside there.low there.high next chain.5)

      pub reach_all : (v : V) (later : List (ℕ × V)) → 0 < m → lost 0 ≡ 0 → IsChain 0 v later → Reach cost (suc (length later)) m (lost (break m))
      reach_all v later some none chain =
          let up = world.breaks_rise 0 some in
          let first = world.first_break in
          let count : suc (length later) ≡ suc 0 + length later = omega arith in
          rw count (reach_of 0 0 0 v later some (omega arith) (omega arith) (inl (sym first, (0, omega arith, refl))) chain)
