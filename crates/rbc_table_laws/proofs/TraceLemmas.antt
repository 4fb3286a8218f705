-- The steps read off the greatest sound table, from its last column backwards, are the chosen profile.
use Rattle.std.proofs.Common.{◌≡◌, refl, ap, sym, ◌∙◌, arith, subst, ℕ, zero, suc, ◌+◌, ◌-◌, ◌%◌, ◌<◌, ◌≤◌, ◌⊎◌, inl, inr, true, false, List, [], ◌∷◌, length, reverse, Option, Some, nat_lt, ◌==◌, option_map}
use mathlib.Core.List.{reverse_aux}
use Rattle.std.proofs.lemmas.List.{reverse-reverse}
use Rattle.std.proofs.lemmas.Bool.Decides.{nat_tests}
use Rattle.rbc_model.specs.Levels.{Levels, IsLawful}
use Rattle.rbc_model.specs.Profiles.{value_at, starts_of, comes_first, loss, IsTrackFunction, Fits, IsBestProfile, IsChosenProfile}
use Rattle.rbc_model.specs.PriceTables.{least_value, table_at, row_count, stretch_count, step_cost, break_at, IsSoundTable, IsGreatestSoundTable}
use Rattle.rbc_model.proofs.RunLemmas.{IsCovered}
use Rattle.rbc_table_laws.specs.Tracebacks.{AreAtBreaks, IsShortest, IsTraceback, IsReadOff}
use Rattle.rbc_table_laws.proofs.LeastLemmas.{spent, IsGiven, IsLeast, least_between, floor_given, cost_is}
use Rattle.rbc_table_laws.proofs.TailLemmas.{IsTail, tail_dearer, tail_fits, tail_loss}
use Rattle.rbc_table_laws.proofs.WayLemmas.{at_most_way, at_most_step}
use Rattle.rbc_table_laws.proofs.FilledTableLemmas.{reached_of_greatest}
use Rattle.rbc_table_laws.proofs.ChainLemmas.{AreBreaksInUnits, breaks_up}
use Rattle.rbc_table_laws.proofs.BreakLemmas.{covered_of, are_breaks, break_whole, track_some}
use Rattle.rbc_table_laws.proofs.BoundLemmas.{price_at_most_loss, best_of_price, fewest_of_rows}
use Rattle.rbc_table_laws.proofs.ShortestProfileLemmas.{AreCuts, tail_of_profile, cuts_of_shortest}
use Rattle.rbc_table_laws.proofs.PathLemmas.{IsPath, way_of_path, path_of, breaks_below}

starts_of_reverse : {V : Type 0} (steps onto : List (ℕ × V)) → starts_of (reverse_aux steps onto) ≡ reverse_aux (starts_of steps) (starts_of onto)
starts_of_reverse [] onto = refl
starts_of_reverse (step ∷ later) onto = starts_of_reverse later (step ∷ onto)

module _ {V : Type 0} (levels : Levels V) (lawful : IsLawful levels) (unit limit n : ℕ) (some : 0 < unit) (whole : n % unit ≡ 0)
    (runs : List (ℕ × V)) (track : IsTrackFunction levels n runs) where
  abbrev break : ℕ → ℕ
  break = break_at levels unit limit n runs

  abbrev m : ℕ
  m = stretch_count levels unit limit n runs

  covered : IsCovered levels lawful n (value_at runs)
  covered = covered_of levels lawful n runs track

  pub breaks : AreBreaksInUnits levels unit limit n (value_at runs) m break
  breaks = are_breaks levels lawful unit limit n some whole runs track

  pub some_stretches : (k : ℕ) → k ≡ m → 0 < m
  some_stretches zero e =
      let first = breaks.first in
      let last = breaks.last in
      let metre = track_some levels n runs track in
      let same : break m ≡ break 0 = ap break (sym e) in
      absurd (omega arith)
  some_stretches (suc k) e = omega arith

  at_breaks : (steps : List (ℕ × V)) → AreCuts m break steps → AreAtBreaks levels unit limit n runs steps
  at_breaks [] cuts = tt
  at_breaks (step ∷ later) cuts = (record { at = cuts.0.at; inside = cuts.0.inside; is = cuts.0.is }, at_breaks later cuts.1)

  cuts_of : (steps : List (ℕ × V)) → IsShortest levels unit limit n runs steps → AreCuts m break steps
  cuts_of steps short =
      cuts_of_shortest levels unit limit n (value_at runs) m break lawful covered breaks (break_whole levels lawful unit limit n some whole runs track)
      (track_some levels n runs track) (some_stretches m refl) steps short.best short.fewest

  -- each start of a best profile with the fewest steps is a break
  pub shortest_at_breaks : (steps : List (ℕ × V)) → IsShortest levels unit limit n runs steps → AreAtBreaks levels unit limit n runs steps
  shortest_at_breaks steps short = at_breaks steps (cuts_of steps short)

  abbrev Path : ℕ → ℕ → List ℕ → ℕ → Type 0
  Path = IsPath break (step_cost levels unit limit n runs)

  pub at_most_end : (i : ℕ) → i ≤ m → break i ≤ n
  at_most_end i column =
      let up = breaks_up levels unit limit n (value_at runs) m break breaks i m column (omega arith) in
      let last = breaks.last in
      omega arith

  the_value : (v given : V) (o : Option V) → o ≡ Some v → option_map levels.floor o ≡ Some given → levels.floor v ≡ given
  the_value v given o e f =
      let is : Some (levels.floor v) ≡ Some given = ap (option_map levels.floor) (sym e) ∙ f in
      cc

  -- one step more at the front, with the floor of its least value
  one_more : (i i' : ℕ) (step : ℕ × V) (later : List (ℕ × V)) (rest : ℕ) → i < i' → i' ≤ m → step.0 ≡ break i → (l : IsLeast levels n (value_at runs) (break i) (break i' - break i))
      → levels.floor l.least ≡ step.1 → IsTail levels unit limit n (value_at runs) (break i') later rest
      → IsTail levels unit limit n (value_at runs) (break i) (step ∷ later) (step_cost levels unit limit n runs i i' + rest)
  one_more i i' step later rest earlier column start l value tail =
      let up = breaks_below levels unit limit n (value_at runs) m break lawful covered breaks i i' earlier column in
      let given = floor_given levels n (value_at runs) lawful covered (break i) (break i') up (at_most_end i' column) l in
      let paid = cost_is levels n (value_at runs) lawful covered (break i) (break i') up l in
      let a : spent levels n (value_at runs) (levels.floor l.least) (break i) ≡ spent levels n (value_at runs) step.1 (break i) = ap (λ v. spent levels n (value_at runs) v (break i)) value in
      let b : spent levels n (value_at runs) (levels.floor l.least) (break i') ≡ spent levels n (value_at runs) step.1 (break i') = ap (λ v. spent levels n (value_at runs) v (break i')) value in (
        break i',
        rest,
        start,
        up,
        break_whole levels lawful unit limit n some whole runs track i (omega arith),
        subst (λ v. IsGiven levels n (value_at runs) v (break i) (break i')) value given,
        omega arith,
        tail,
      )

  module _ (rows : List (List ℕ)) where
    module _ (sound : IsSoundTable levels unit limit n runs rows) where
      before_same_behind : (a b : ℕ) → (a < b) ⊎ (a ≡ b) ⊎ (b < a)
      before_same_behind a b = grind arith

      no_steps : (j i paid : ℕ) (starts : List ℕ) → Path j i starts paid → j ≡ 0 → i ≡ 0
      no_steps zero i paid [] p e = p
      no_steps zero i paid (start ∷ before) p e = absurd p
      no_steps (suc j) i paid starts p e = absurd (omega arith)

      earlier_first : (x y : ℕ) (xs ys : List ℕ) → x < y → comes_first (x ∷ xs) (y ∷ ys) ≡ true
      earlier_first x y xs ys h = let test : nat_lt x y ≡ true = grind (arith, nat_tests) in rw test refl

      same_first : (x y : ℕ) (xs ys : List ℕ) → x ≡ y → comes_first xs ys ≡ true → comes_first (x ∷ xs) (y ∷ ys) ≡ true
      same_first x y xs ys e rest =
          let test : nat_lt x y ≡ false = grind (arith, nat_tests) in
          let same : (x == y) ≡ true = grind (arith, nat_tests) in
          rw (test, same, rest) refl

      -- no path of as many steps that costs no more has earlier starts, read from the last one backwards
      traceback_first : (j i' : ℕ) (back : List (ℕ × V)) (starts : List ℕ) (price : ℕ) → j ≤ row_count levels unit limit n runs → i' ≤ m
          → IsTraceback levels unit limit n runs rows j i' back → Path j i' starts price → price ≤ table_at rows j i' → comes_first (starts_of back) starts ≡ true
      traceback_first zero i' [] starts price row column t p low = refl
      traceback_first zero i' (step ∷ before) starts price row column t p low = absurd t
      traceback_first (suc j) i' [] starts price row column t p low = absurd t
      traceback_first (suc j) i' (step ∷ before) [] price row column t p low = absurd p
      traceback_first (suc j) i' (step ∷ before) (start ∷ starts) price row column t p low =
          let i = t.0 in
          let s = t.1 in
          let ours = s.start in
          let theirs = p.2 in
          let adds_up = s.adds_up in
          let on = p.3 in
          let sum = p.5 in
          let below = at_most_way levels unit limit n runs rows sound j j p.0 p.1 (omega arith) (omega arith) (omega arith)
          (way_of_path break (step_cost levels unit limit n runs) j p.0 starts p.1 p.4) in
          let step_below = at_most_step levels unit limit n runs rows sound j p.0 i' (table_at rows j p.0) (table_at rows j p.0 + step_cost levels unit limit n runs p.0 i')
          row column on (no_steps j p.0 p.1 starts p.4) (omega arith) (omega arith) in
          let adds : table_at rows j p.0 + step_cost levels unit limit n runs p.0 i' ≡ table_at rows (suc j) i' = omega arith in
          elim (before_same_behind p.0 t.0) [
            | inl earlier ↦ absurd (s.first p.0 earlier adds)
            | inr (inl same) ↦
                let costs_same : step_cost levels unit limit n runs p.0 i' ≡ step_cost levels unit limit n runs t.0 i' = ap (λ k. step_cost levels unit limit n runs k i') same in
                let path = subst (λ k. Path j k starts p.1) same p.4 in
                let earlier = s.earlier in
                same_first step.0 start (starts_of before) starts (s.start ∙ ap break (sym same) ∙ sym p.2)
                (traceback_first j t.0 before starts p.1 (omega arith) (omega arith) t.2 path (omega arith))
            | inr (inr later) ↦
                let up = breaks_below levels unit limit n (value_at runs) m break lawful covered breaks t.0 p.0 later (omega arith) in
                earlier_first step.0 start (starts_of before) starts (omega arith)
          ]

    -- the steps read off make a profile that fits, and lose no more than the price
    tail_of_back : (j i' : ℕ) (back later : List (ℕ × V)) (rest total : ℕ) → i' ≤ m → table_at rows j i' + rest ≤ total → IsTraceback levels unit limit n runs rows j i' back
        → IsTail levels unit limit n (value_at runs) (break i') later rest → IsTail levels unit limit n (value_at runs) 0 (reverse_aux back later) total
    tail_of_back zero i' [] later rest total column sum t tail =
        let start : break i' ≡ 0 = ap break t ∙ breaks.first in
        tail_dearer levels unit limit n (value_at runs) 0 later rest total (omega arith) (subst (λ x. IsTail levels unit limit n (value_at runs) x later rest) start tail)
    tail_of_back zero i' (step ∷ before) later rest total column sum t tail = absurd t
    tail_of_back (suc j) i' [] later rest total column sum t tail = absurd t
    tail_of_back (suc j) i' (step ∷ before) later rest total column sum t tail =
        let s = t.1 in
        let earlier = s.earlier in
        let adds_up = s.adds_up in
        let up = breaks_below levels unit limit n (value_at runs) m break lawful covered breaks t.0 i' earlier column in
        let l = least_between levels n (value_at runs) lawful covered (break t.0) (break i') up (at_most_end i' column) in
        tail_of_back j t.0 before (step ∷ later) (step_cost levels unit limit n runs t.0 i' + rest) total (omega arith) (omega arith) t.2
        (one_more t.0 i' step later rest earlier column s.start l (the_value l.least step.1 (least_value levels (value_at runs) (break t.0) (break i' - break t.0)) l.is s.value) tail)

    module _ (greatest : IsGreatestSoundTable levels unit limit n runs rows) where
      abbrev last_row : ℕ
      last_row = row_count levels unit limit n runs

      abbrev Best : List (ℕ × V) → Type 0
      Best = IsBestProfile levels unit limit n (value_at runs)

      -- a row's last price is no lower than the last row's
      rows_fall : (j : ℕ) → 1 ≤ j → j ≤ last_row → table_at rows last_row m ≤ table_at rows j m
      rows_fall zero some_row inside = absurd (omega arith)
      rows_fall (suc j) some_row inside =
          let reached = reached_of_greatest levels unit limit n runs rows greatest j m inside (omega arith) in
          let few = reached.1 in
          at_most_way levels unit limit n runs rows greatest.sound reached.0 last_row m (table_at rows (suc j) m) (omega arith) (omega arith) (omega arith) reached.2

      above_if_not : (a b : ℕ) → a ≤ b → (b ≡ a → ⊥) → (a < b) ⊎ (b ≡ a) → a < b
      above_if_not a b h not (inl l) = l
      above_if_not a b h not (inr e) = absurd (not e)

      above_or_same : (a b : ℕ) → a ≤ b → (a < b) ⊎ (b ≡ a)
      above_or_same a b h = grind arith

      module _ (steps : List (ℕ × V)) (read : IsReadOff levels unit limit n runs rows steps) where
        read_tail : IsTail levels unit limit n (value_at runs) 0 steps (table_at rows (length steps) m)
        read_tail =
            subst (λ s. IsTail levels unit limit n (value_at runs) 0 s (table_at rows (length steps) m)) (reverse-reverse steps)
            (tail_of_back (length steps) m (reverse steps) [] 0 (table_at rows (length steps) m) (omega arith) (omega arith) read.back breaks.last)

        read_fits : Fits levels unit limit n (value_at runs) steps
        read_fits =
            let inside = read.inside in
            tail_fits levels unit limit n (value_at runs) lawful covered steps (table_at rows (length steps) m) (track_some levels n runs track) (omega arith) read_tail

        read_loss : loss levels n (value_at runs) steps ≡ table_at rows last_row m
        read_loss =
            let low = tail_loss levels unit limit n (value_at runs) steps (table_at rows (length steps) m) read_tail in
            let high = price_at_most_loss levels lawful unit limit n some whole runs track rows greatest.sound steps read_fits in
            let price = read.price in
            omega arith

        read_best : Best steps
        read_best = best_of_price levels lawful unit limit n some whole runs track rows greatest.sound steps read_fits read_loss

        read_fewest : (other : List (ℕ × V)) → Best other → length steps ≤ length other
        read_fewest =
            let inside = read.inside in
            let loses = read_loss in
            fewest_of_rows levels lawful unit limit n some whole runs track rows greatest.sound steps read_fits read_loss inside
            (λ j some_row few.
            let fall = rows_fall j some_row (omega arith) in
            let above = above_if_not (table_at rows last_row m) (table_at rows j m) fall (read.first_row j some_row few) (above_or_same (table_at rows last_row m) (table_at rows j m) fall) in
            omega arith)

        read_first : (other : List (ℕ × V)) → Best other → length other ≡ length steps → comes_first (reverse (starts_of steps)) (reverse (starts_of other)) ≡ true
        read_first other best same =
            let inside = read.inside in
            let price = read.price in
            let loses = read_loss in
            let no_less = best.least steps read_fits in
            let short : IsShortest levels unit limit n runs other = record { best = best; fewest = λ third also. let no_fewer = read_fewest third also in omega arith } in
            let tail = tail_of_profile levels unit limit n (value_at runs) m break lawful covered breaks (break_whole levels lawful unit limit n some whole runs track) other best.fits in
            let path = path_of levels unit limit n (value_at runs) m break lawful covered breaks other (loss levels n (value_at runs) other) tail (cuts_of other short) in
            let like = subst (λ k. Path k m (reverse (starts_of other)) (loss levels n (value_at runs) other)) same path in
            subst (λ starts. comes_first starts (reverse (starts_of other)) ≡ true) (starts_of_reverse steps [])
            (traceback_first greatest.sound (length steps) m (reverse steps) (reverse (starts_of other)) (loss levels n (value_at runs) other) inside (omega arith) read.back like (omega arith))

        pub chosen_of_read : IsChosenProfile levels unit limit n (value_at runs) steps
        chosen_of_read = record { best = read_best; fewest = read_fewest; first = read_first }
