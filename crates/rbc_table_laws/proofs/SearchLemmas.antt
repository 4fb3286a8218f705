-- A search from the last column of the greatest sound table backwards finds a break in each row, and ends at the start.
use Rattle.std.proofs.Common.{◌≡◌, ◌≢◌, refl, ap, sym, arith, subst, ℕ, zero, suc, ◌+◌, ◌%◌, ◌<◌, ◌≤◌, ◌⊎◌, inl, inr, List, [], ◌∷◌, ◌++◌}
use Rattle.std.proofs.lemmas.Bool.{cases_lt}
use Rattle.rbc_model.specs.Levels.{Levels, IsLawful}
use Rattle.rbc_model.specs.Profiles.{IsTrackFunction}
use Rattle.rbc_model.specs.PriceTables.{table_at, row_count, stretch_count, step_cost, IsGreatestSoundTable}
use Rattle.rbc_table_laws.specs.Tracebacks.{IsStepBack, IsTraceback, IsTracedTo, IsOnWay, IsFound}
use Rattle.rbc_table_laws.proofs.WayLemmas.{Way, at_most_way}
use Rattle.rbc_table_laws.proofs.FilledTableLemmas.{reached_of_greatest}
use Rattle.rbc_table_laws.proofs.TraceLemmas.{some_stretches}

module _ {V : Type 0} (levels : Levels V) (unit limit n : ℕ) (runs : List (ℕ × V)) (rows : List (List ℕ)) where
  -- ---- the steps so far

  pub traced_more : (r m : ℕ) (back : List (ℕ × V)) (j i' i : ℕ) (step : ℕ × V) → IsTracedTo levels unit limit n runs rows r m back (suc j) i'
      → IsStepBack levels unit limit n runs rows j i' i step → IsTracedTo levels unit limit n runs rows r m (back ++ step ∷ []) j i
  traced_more zero m [] j i' i step t s = absurd (let e = t.0 in omega arith)
  traced_more (suc r) m [] j i' i step t s =
      let row : j ≡ r = (let e = t.0 in omega arith) in
      (i, subst (λ k. IsStepBack levels unit limit n runs rows r k i step) (sym t.1) (subst (λ k. IsStepBack levels unit limit n runs rows k i' i step) row s), (sym row, refl))
  traced_more zero m (other ∷ back) j i' i step t s = absurd t
  traced_more (suc r) m (other ∷ back) j i' i step t s = (t.0, t.1, traced_more r t.0 back j i' i step t.2 s)

  pub traced_whole : (r m : ℕ) (back : List (ℕ × V)) → IsTracedTo levels unit limit n runs rows r m back 0 0 → IsTraceback levels unit limit n runs rows r m back
  traced_whole zero m [] t = t.1
  traced_whole (suc r) m [] t = absurd (let e = t.0 in omega arith)
  traced_whole zero m (step ∷ back) t = absurd t
  traced_whole (suc r) m (step ∷ back) t = (t.0, t.1, traced_whole r t.0 back t.2)

  module _ (greatest : IsGreatestSoundTable levels unit limit n runs rows) where
    abbrev cost : ℕ → ℕ → ℕ
    cost = step_cost levels unit limit n runs

    fewer_or_all : (k j : ℕ) → k ≤ suc j → (k ≡ 0) ⊎ ((1 ≤ k) × (k < suc j)) ⊎ (k ≡ suc j)
    fewer_or_all zero j h = inl refl
    fewer_or_all (suc k) j h = inr (rest (last_or_before k j h))
      where
        last_or_before : (k j : ℕ) → suc k ≤ suc j → (k < j) ⊎ (k ≡ j)
        last_or_before k j h = grind arith

        rest : (k < j) ⊎ (k ≡ j) → ((1 ≤ suc k) × (suc k < suc j)) ⊎ (suc k ≡ suc j)
        rest (inl l) = inl (omega arith, omega arith)
        rest (inr e) = inr (omega arith)

    rows_fall : (k j i' : ℕ) → 1 ≤ k → k ≤ j → j ≤ row_count levels unit limit n runs → i' ≤ stretch_count levels unit limit n runs → table_at rows j i' ≤ table_at rows k i'
    rows_fall zero j i' some inside row column = absurd (omega arith)
    rows_fall (suc k) j i' some inside row column =
        let reached = reached_of_greatest levels unit limit n runs rows greatest k i' (omega arith) column in
        let few = reached.1 in
        at_most_way levels unit limit n runs rows greatest.sound reached.0 j i' (table_at rows (suc k) i') (omega arith) row column reached.2

    -- a way of all the steps: its last step adds up
    last_step : (j i' : ℕ) → suc j ≤ row_count levels unit limit n runs → i' ≤ stretch_count levels unit limit n runs → Way cost (suc j) i' (table_at rows (suc j) i')
        → (i : ℕ) × (i < i') × (table_at rows j i + cost i i' ≤ table_at rows (suc j) i') × (j ≡ 0 → i ≡ 0)
    last_step zero i' row column w = let sum = w.4 in let on = w.2 in (w.0, w.2, omega arith, λ e. w.3)
    last_step (suc j) i' row column w =
        let sum = w.4 in
        let on = w.2 in
        let before = at_most_way levels unit limit n runs rows greatest.sound (suc j) (suc j) w.0 w.1 (omega arith) (omega arith) (omega arith) w.3 in
        (w.0, w.2, omega arith, λ e. absurd (omega arith))

    -- and no step makes it less
    no_less : (j i i' : ℕ) → suc j ≤ row_count levels unit limit n runs → i' ≤ stretch_count levels unit limit n runs → i < i' → (j ≡ 0 → i ≡ 0) → table_at rows (suc j) i' ≤ table_at rows j i + cost i i'
    no_less zero i i' row column on start =
        let first = greatest.sound.one_step i' column in
        let same : cost i i' ≡ cost 0 i' = ap (λ k. cost k i') (start refl) in
        omega arith
    no_less (suc j) i i' row column on start = greatest.sound.more_steps (suc j) i i' (omega arith) row on column

    adds_up : (j i i' : ℕ) → suc j ≤ row_count levels unit limit n runs → i' ≤ stretch_count levels unit limit n runs → i < i' → (j ≡ 0 → i ≡ 0)
        → table_at rows j i + cost i i' ≤ table_at rows (suc j) i' → table_at rows j i + cost i i' ≡ table_at rows (suc j) i'
    adds_up j i i' row column on start h = let less = no_less j i i' row column on start in omega arith

    found_of : (j i' : ℕ) → suc j ≤ row_count levels unit limit n runs → i' ≤ stretch_count levels unit limit n runs → IsOnWay levels unit limit n runs rows (suc j) i'
        → (i : ℕ) × (i < i') × (table_at rows j i + cost i i' ≡ table_at rows (suc j) i') × (j ≡ 0 → i ≡ 0)
    found_of j i' row column on =
        let reached = reached_of_greatest levels unit limit n runs rows greatest j i' row column in
        go reached.0 (fewer_or_all reached.0 j reached.1) reached.2
      where
        last : (w : Way cost (suc j) i' (table_at rows (suc j) i')) → (i : ℕ) × (i < i') × (table_at rows j i + cost i i' ≡ table_at rows (suc j) i') × (j ≡ 0 → i ≡ 0)
        last w = let l = last_step j i' row column w in (l.0, l.1, adds_up j l.0 i' row column l.1 l.3 l.2, l.3)

        go : (k : ℕ) → (k ≡ 0) ⊎ ((1 ≤ k) × (k < suc j)) ⊎ (k ≡ suc j) → Way cost k i' (table_at rows (suc j) i')
            → (i : ℕ) × (i < i') × (table_at rows j i + cost i i' ≡ table_at rows (suc j) i') × (j ≡ 0 → i ≡ 0)
        go k (inl e) w =
            let none : Way cost 0 i' (table_at rows (suc j) i') = subst (λ k. Way cost k i' (table_at rows (suc j) i')) e w in
            let never = on.go_on none in
            absurd (omega arith)
        go k (inr (inl few)) w =
            let some = few.0 in
            let fewer = few.1 in
            let low = at_most_way levels unit limit n runs rows greatest.sound k k i' (table_at rows (suc j) i') (omega arith) (omega arith) column w in
            let fall = rows_fall k (suc j) i' few.0 (omega arith) row column in
            absurd (on.first k few.0 few.1 (omega arith))
        go k (inr (inr e)) w = last (subst (λ k. Way cost k i' (table_at rows (suc j) i')) e w)

    first_is_start : (i found : ℕ) → found ≡ 0 → (i ≤ found) → i ≡ 0
    first_is_start i found e h = omega arith

    next_of : (j i' i : ℕ) → suc j ≤ row_count levels unit limit n runs → i' ≤ stretch_count levels unit limit n runs → IsOnWay levels unit limit n runs rows (suc j) i' → i < i'
        → table_at rows j i + cost i i' ≡ table_at rows (suc j) i'
        → ((k : ℕ) → k < i → table_at rows j k + cost k i' ≢ table_at rows (suc j) i') → IsOnWay levels unit limit n runs rows j i
    next_of j i' i row column on up sum first = record {
      first = λ k some fewer e.
          let more = greatest.sound.more_steps k i i' some (omega arith) up column in
          let fall = rows_fall (suc k) (suc j) i' (omega arith) (omega arith) row column in
          on.first (suc k) (omega arith) (omega arith) (omega arith);
      start = λ e.
          let found = found_of j i' row column on in
          elim (cases_lt found.0 i) [
            | inl before ↦ absurd (first found.0 before found.2)
            | inr h ↦ first_is_start i found.0 (found.3 e) h
          ];
      go_on = λ e. at_start j row on sum e;
    }
      where
        at_start : (j : ℕ) → suc j ≤ row_count levels unit limit n runs → IsOnWay levels unit limit n runs rows (suc j) i' → table_at rows j i + cost i i' ≡ table_at rows (suc j) i' → i ≡ 0 → j ≡ 0
        at_start zero row on sum e = refl
        at_start (suc j) row on sum e =
            let one = greatest.sound.one_step i' column in
            let none : table_at rows (suc j) i ≡ table_at rows (suc j) 0 = ap (table_at rows (suc j)) e in
            let same : cost i i' ≡ cost 0 i' = ap (λ k. cost k i') e in
            let fall = rows_fall 1 (suc (suc j)) i' (omega arith) (omega arith) row column in
            absurd (on.first 1 (omega arith) (omega arith) (omega arith))

    pub is_found : (lawful : IsLawful levels) → 0 < unit → n % unit ≡ 0 → IsTrackFunction levels n runs → IsFound levels unit limit n runs rows
    is_found lawful some whole track = record {
      begins = λ j some_row inside first.
          let stretches = some_stretches levels lawful unit limit n some whole runs track (stretch_count levels unit limit n runs) refl in
          record { first = first; start = λ e. absurd (omega arith); go_on = λ e. absurd (omega arith) };
      some_break = λ j i' row column on. let found = found_of j i' row column on in (found.0, found.1, found.2);
      next = next_of;
      ends = λ i' on. on.start refl;
    }
