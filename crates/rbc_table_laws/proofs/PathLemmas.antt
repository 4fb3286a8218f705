-- Paths: ways over the breaks together with their starts, the last one first. A profile with its starts at breaks is one.
use Rattle.std.proofs.Common.{◌≡◌, refl, ap, sym, ◌∙◌, arith, subst, ℕ, zero, suc, ◌+◌, ◌<◌, ◌≤◌, ◌⊎◌, inl, inr, List, [], ◌∷◌, length, Option}
use Rattle.std.proofs.lemmas.Bool.{cases_lt}
use mathlib.Core.List.{reverse_aux}
use Rattle.rbc_model.specs.Levels.{Levels, IsLawful}
use Rattle.rbc_model.specs.Profiles.{starts_of}
use Rattle.rbc_model.proofs.RunLemmas.{IsCovered}
use Rattle.rbc_table_laws.proofs.LeastLemmas.{spent, IsGiven}
use Rattle.rbc_table_laws.proofs.TailLemmas.{IsTail}
use Rattle.rbc_table_laws.proofs.WayLemmas.{Way}
use Rattle.rbc_table_laws.proofs.ChainLemmas.{AreBreaksInUnits, breaks_up, costs, world}
use Rattle.rbc_table_laws.proofs.ShortestProfileLemmas.{AreCuts}

module _ (break : ℕ → ℕ) (cost : ℕ → ℕ → ℕ) where
  -- k steps to break i
  abbrev pub IsPath : ℕ → ℕ → List ℕ → ℕ → Type 0
  IsPath zero i [] price = i ≡ 0
  IsPath zero i (start ∷ before) price = ⊥
  IsPath (suc k) i [] price = ⊥
  IsPath (suc k) i (start ∷ before) price =
      (from : ℕ) × (paid : ℕ) × (start ≡ break from) × (from < i) × IsPath k from before paid × (paid + cost from i ≤ price)

  pub way_of_path : (k i : ℕ) (starts : List ℕ) (price : ℕ) → IsPath k i starts price → Way cost k i price
  way_of_path zero i [] price p = p
  way_of_path zero i (start ∷ before) price p = absurd p
  way_of_path (suc k) i [] price p = absurd p
  way_of_path (suc k) i (start ∷ before) price p = (p.0, p.1, p.3, way_of_path k p.0 before p.1 p.4, p.5)

  path_dearer : (k i : ℕ) (starts : List ℕ) (low high : ℕ) → low ≤ high → IsPath k i starts low → IsPath k i starts high
  path_dearer zero i [] low high h p = p
  path_dearer zero i (start ∷ before) low high h p = absurd p
  path_dearer (suc k) i [] low high h p = absurd p
  path_dearer (suc k) i (start ∷ before) low high h p = let sum = p.5 in (p.0, p.1, p.2, p.3, p.4, omega arith)

module _ {V : Type 0} (levels : Levels V) (unit limit n : ℕ) (track : ℕ → Option V) (m : ℕ) (break : ℕ → ℕ) (lawful : IsLawful levels)
    (covered : IsCovered levels lawful n track) (are : AreBreaksInUnits levels unit limit n track m break) where
  abbrev Path : ℕ → ℕ → List ℕ → ℕ → Type 0
  Path = IsPath break (costs levels unit limit n track m break)

  -- of two breaks the earlier one has the lower number
  pub break_order : (i j : ℕ) → i ≤ m → break i < break j → i < j
  break_order i j inside h = elim (cases_lt i j) [
    | inl l ↦ l
    | inr l ↦ let up = breaks_up levels unit limit n track m break are j i l inside in absurd (omega arith)
  ]

  pub breaks_below : (i j : ℕ) → i < j → j ≤ m → break i < break j
  breaks_below i j h inside =
      let next = are.rise i (omega arith) in
      let up = breaks_up levels unit limit n track m break are (suc i) j h inside in
      omega arith

  -- where steps go on, there is a break
  next_break : (x : ℕ) (steps : List (ℕ × V)) (price : ℕ) → IsTail levels unit limit n track x steps price → AreCuts m break steps → (i : ℕ) × (i ≤ m) × (x ≡ break i)
  next_break x [] price t cuts = (m, omega arith, t ∙ sym are.last)
  next_break x (step ∷ later) price t cuts = let at = cuts.0.inside in (cuts.0.at, omega arith, sym t.2 ∙ cuts.0.is)

  end_is : (i : ℕ) → i ≤ m → break i ≡ n → (i < m) ⊎ (m ≤ i) → i ≡ m
  end_is i inside e (inl l) = let up = breaks_below i m l (omega arith) in let last = are.last in absurd (omega arith)
  end_is i inside e (inr l) = omega arith

  path_on : (k i price rest total : ℕ) (back : List ℕ) (steps : List (ℕ × V)) → i ≤ m → price + rest ≤ total → Path k i back price
      → IsTail levels unit limit n track (break i) steps rest → AreCuts m break steps → Path (k + length steps) m (reverse_aux (starts_of steps) back) total
  path_on k i price rest total back [] inside sum p t cuts =
      let end = end_is i inside t (cases_lt i m) in
      let dearer = path_dearer break (costs levels unit limit n track m break) k i back price total (omega arith) p in
      let count : k ≡ k + 0 = omega arith in
      subst (λ c. Path c m back total) count (subst (λ e. Path k e back total) end dearer)
  path_on k i price rest total back (step ∷ later) inside sum p t cuts =
      let next = next_break t.0 later t.1 t.7 cuts.1 in
      let room = next.1 in
      let is = next.2 in
      let up = t.3 in
      let on = break_order i next.0 inside (omega arith) in
      let given = subst (λ y. IsGiven levels n track step.1 (break i) y) is t.5 in
      let tail = subst (λ y. IsTail levels unit limit n track y later t.1) is t.7 in
      let low = (world levels unit limit n track m break lawful covered are).lowest step.1 i next.0 on room given in
      let same : spent levels n track step.1 t.0 ≡ spent levels n track step.1 (break next.0) = ap (spent levels n track step.1) is in
      let loses = t.6 in
      let rest_path = path_on (suc k) next.0 (price + costs levels unit limit n track m break i next.0) t.1 total (step.0 ∷ back) later room (omega arith)
      (i, price, t.2, on, p, omega arith) tail cuts.1 in
      let count : suc k + length later ≡ k + suc (length later) = omega arith in
      subst (λ c. Path c m (reverse_aux (starts_of later) (step.0 ∷ back)) total) count rest_path

  -- a profile with its starts at breaks is a path
  pub path_of : (steps : List (ℕ × V)) (price : ℕ) → IsTail levels unit limit n track 0 steps price → AreCuts m break steps
      → IsPath break (costs levels unit limit n track m break) (length steps) m (reverse_aux (starts_of steps) []) price
  path_of steps price t cuts =
      let count : 0 + length steps ≡ length steps = omega arith in
      subst (λ c. Path c m (reverse_aux (starts_of steps) []) price) count
      (path_on 0 0 0 price price [] steps (omega arith) (omega arith) refl (subst (λ x. IsTail levels unit limit n track x steps price) (sym are.first) t) cuts)
