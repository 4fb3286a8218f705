-- Some steps are read off each greatest sound table.
use Rattle.std.proofs.Common.{◌≡◌, ◌≢◌, refl, ap, sym, ◌∙◌, arith, subst, ℕ, zero, suc, ◌+◌, ◌-◌, ◌%◌, ◌<◌, ◌≤◌, ◌⊎◌, inl, inr, List, [], ◌∷◌, length, reverse, option_map}
use Rattle.std.proofs.lemmas.List.{reverse-reverse, length-reverse}
use Rattle.rbc_model.specs.Levels.{Levels, IsLawful}
use Rattle.rbc_model.specs.Profiles.{value_at, IsTrackFunction}
use Rattle.rbc_model.specs.PriceTables.{table_at, row_count, stretch_count, step_cost, break_at, IsGreatestSoundTable}
use Rattle.rbc_model.proofs.CountingLemmas.{last_or_below}
use Rattle.rbc_table_laws.specs.TableLaws.{row_price, last_price}
use Rattle.rbc_table_laws.specs.Tracebacks.{IsStepBack, IsTraceback, IsOnWay, IsFound, IsReadOff, IsReadable}
use Rattle.rbc_table_laws.proofs.LeastLemmas.{least_between}
use Rattle.rbc_table_laws.proofs.TraceLemmas.{some_stretches, breaks, at_most_end}
use Rattle.rbc_table_laws.proofs.PathLemmas.{breaks_below}
use Rattle.rbc_table_laws.proofs.BreakLemmas.{covered_of}
use Rattle.rbc_table_laws.proofs.SearchLemmas.{is_found}
use Rattle.std.proofs.lemmas.Bool.{cases_eq}

-- ---- the first of the numbers below i at which f is the target

record IsFirst (f : ℕ → ℕ) (target i : ℕ) : Type 0 where
  at : ℕ
  inside : at < i
  is : f at ≡ target
  first : (k : ℕ) → k < at → f k ≢ target

first_or_none : (f : ℕ → ℕ) (target i : ℕ) → IsFirst f target i ⊎ ((k : ℕ) → k < i → f k ≢ target)
first_or_none f target zero = inr (λ k h. absurd (omega arith))
first_or_none f target (suc i) = on (first_or_none f target i) (cases_eq (f i) target)
  where
    on : IsFirst f target i ⊎ ((k : ℕ) → k < i → f k ≢ target) → (f i ≡ target) ⊎ (f i ≡ target → ⊥) → IsFirst f target (suc i) ⊎ ((k : ℕ) → k < suc i → f k ≢ target)
    on (inl found) here = let inside = found.inside in inl (record { at = found.at; inside = omega arith; is = found.is; first = found.first })
    on (inr none) (inl e) = inl (record { at = i; inside = omega arith; is = e; first = none })
    on (inr none) (inr not) = inr (λ k h. elim (last_or_below i k h) [ inl same ↦ (λ e. not (ap f (sym same) ∙ e)) | inr before ↦ none k before ])

first_of : (f : ℕ → ℕ) (target i k : ℕ) → k < i → f k ≡ target → IsFirst f target i
first_of f target i k h e = elim (first_or_none f target i) [ inl found ↦ found | inr none ↦ absurd (none k h e) ]

module _ {V : Type 0} (levels : Levels V) (unit limit n : ℕ) (runs : List (ℕ × V)) (rows : List (List ℕ)) where
  -- a traceback has one step for each row
  pub trace_length : (j i' : ℕ) (back : List (ℕ × V)) → IsTraceback levels unit limit n runs rows j i' back → length back ≡ j
  trace_length zero i' [] t = refl
  trace_length zero i' (step ∷ back) t = absurd t
  trace_length (suc j) i' [] t = absurd t
  trace_length (suc j) i' (step ∷ back) t = let rest = trace_length j t.0 back t.2 in omega arith

  -- turned round, a traceback from the first row whose last price is the table's is read off
  pub read_of_trace : (j : ℕ) (back : List (ℕ × V)) → j ≤ row_count levels unit limit n runs → row_price levels unit limit n runs rows j ≡ last_price levels unit limit n runs rows
      → ((k : ℕ) → 1 ≤ k → k < j → row_price levels unit limit n runs rows k ≢ last_price levels unit limit n runs rows)
      → IsTraceback levels unit limit n runs rows j (stretch_count levels unit limit n runs) back → IsReadOff levels unit limit n runs rows (reverse back)
  read_of_trace j back row price first trace =
      let length_is : length (reverse back) ≡ j = length-reverse back ∙ trace_length j (stretch_count levels unit limit n runs) back trace in
      record {
        inside = omega arith;
        price = ap (row_price levels unit limit n runs rows) length_is ∙ price;
        first_row = λ k some_row fewer. first k some_row (omega arith);
        back =
            subst (λ l. IsTraceback levels unit limit n runs rows l (stretch_count levels unit limit n runs) (reverse (reverse back))) (sym length_is)
            (subst (λ b. IsTraceback levels unit limit n runs rows j (stretch_count levels unit limit n runs) b) (sym (reverse-reverse back)) trace);
      }

module _ {V : Type 0} (levels : Levels V) (lawful : IsLawful levels) (unit limit n : ℕ) (some : 0 < unit) (whole : n % unit ≡ 0)
    (runs : List (ℕ × V)) (track : IsTrackFunction levels n runs) (rows : List (List ℕ)) (greatest : IsGreatestSoundTable levels unit limit n runs rows) where
  abbrev m : ℕ
  m = stretch_count levels unit limit n runs

  abbrev last_row : ℕ
  last_row = row_count levels unit limit n runs

  abbrev break : ℕ → ℕ
  break = break_at levels unit limit n runs

  found : IsFound levels unit limit n runs rows
  found = is_found levels unit limit n runs rows greatest lawful some whole track

  record IsWalk (j i' : ℕ) : Type 0 where
    back : List (ℕ × V)
    trace : IsTraceback levels unit limit n runs rows j i' back

  -- the step back to break i, with the floor of the least value there
  record IsOneBack (j i' i : ℕ) : Type 0 where
    step : ℕ × V
    is : IsStepBack levels unit limit n runs rows j i' i step

  one_back : (j i' : ℕ) → i' ≤ m → (f : IsFirst (λ k. table_at rows j k + step_cost levels unit limit n runs k i') (table_at rows (suc j) i') i') → IsOneBack j i' f.at
  one_back j i' column f =
      let covered = covered_of levels lawful n runs track in
      let up = breaks_below levels unit limit n (value_at runs) m break lawful covered (breaks levels lawful unit limit n some whole runs track) f.at i' f.inside column in
      let l = least_between levels n (value_at runs) lawful covered (break f.at) (break i') up (at_most_end levels lawful unit limit n some whole runs track i' column) in
      record {
        step = (break f.at, levels.floor l.least);
        is = record { earlier = f.inside; adds_up = f.is; first = f.first; start = refl; value = ap (option_map levels.floor) l.is };
      }

  walk_of : (j i' : ℕ) → j ≤ last_row → i' ≤ m → IsOnWay levels unit limit n runs rows j i' → IsWalk j i'
  walk_of zero i' row column on = record { back = []; trace = on.start refl }
  walk_of (suc j) i' row column on =
      let there = found.some_break j i' row column on in
      let f = first_of (λ k. table_at rows j k + step_cost levels unit limit n runs k i') (table_at rows (suc j) i') i' there.0 there.1 there.2 in
      let inside = f.inside in
      let one = one_back j i' column f in
      let rest = walk_of j f.at (omega arith) (omega arith) (found.next j i' f.at row column on f.inside f.is f.first) in
      record { back = one.step ∷ rest.back; trace = (f.at, one.is, rest.trace) }

  pub readable : 0 < limit → IsReadable levels unit limit n runs rows
  readable some_steps =
      let stretches = some_stretches levels lawful unit limit n some whole runs track m refl in
      let row : 0 < last_row = omega arith in
      let count : suc (last_row - 1) ≡ last_row = omega arith in
      let f = first_of (λ k. row_price levels unit limit n runs rows (suc k)) (last_price levels unit limit n runs rows) last_row (last_row - 1) (omega arith)
      (ap (row_price levels unit limit n runs rows) count) in
      let inside = f.inside in
      let first : (k : ℕ) → 1 ≤ k → k < suc f.at → row_price levels unit limit n runs rows k ≢ last_price levels unit limit n runs rows = before f.at f.first in
      let on = found.begins (suc f.at) (omega arith) (omega arith) (λ k some_row fewer e. first k some_row fewer (trans (row_price levels unit limit n runs rows k) (row_price levels unit limit n runs rows (suc f.at)) (last_price levels unit limit n runs rows) e f.is)) in
      let walk = walk_of (suc f.at) m (omega arith) (omega arith) on in
      record { steps = reverse walk.back; read = read_of_trace levels unit limit n runs rows (suc f.at) walk.back (omega arith) f.is first walk.trace }
    where
      trans : (a b c : ℕ) → a ≡ b → b ≡ c → a ≡ c
      trans a b c e f = omega arith

      before : (at : ℕ) → ((k : ℕ) → k < at → row_price levels unit limit n runs rows (suc k) ≢ last_price levels unit limit n runs rows)
          → (k : ℕ) → 1 ≤ k → k < suc at → row_price levels unit limit n runs rows k ≢ last_price levels unit limit n runs rows
      before at none zero some_row fewer = absurd (omega arith)
      before at none (suc k) some_row fewer = none k (omega arith)
