-- The breaks of a track at a unit of 1 are the starts of its runs and its end, and between two of them it has one value.
use Rattle.std.proofs.Common.{◌≡◌, refl, ap, sym, ◌∙◌, arith, subst, ℕ, zero, suc, ◌+◌, ◌-◌, ◌<◌, ◌≤◌, true, false, List, [], ◌∷◌, ◌++◌, length, get_or, Some, nat_lt}
use Rattle.std.specs.List.{list_all, slice_get}
use Rattle.std.proofs.lemmas.Bool.Decides.{nat_tests}
use Rattle.std.proofs.lemmas.Bool.{ltb-true, lt-ltb}
use Rattle.std.proofs.lemmas.Option.{slice_get-get_or}
use Rattle.rbc_model.specs.Levels.{Levels}
use Rattle.rbc_model.specs.Profiles.{StepFunction, IsTrackFunction, value_at, starts_of, rises_above, rises_from_zero}
use Rattle.rbc_model.specs.PriceTables.{breaks_of, with_number, rounded_down, rounded_up}
use Rattle.rbc_table_laws.specs.Breaks.{AreBreaks}
use Rattle.rbc_table_laws.proofs.RisingNumberLemmas.{Rises, rises_at}
use Rattle.rbc_table_laws.proofs.BreakLemmas.{breaks_rise}
use Rattle.rbc_table_laws.proofs.ChainLemmas.{value_last, value_here}
use Rattle.rbc_model.proofs.BasicLemmas.{same_number}
use Rattle.rbc_model.proofs.StepListLemmas.{rises_split, zero_split, all_split}

-- ---- the list

not_lower : (a : ℕ) → nat_lt a a ≡ false
not_lower a = grind (arith, nat_tests)

put_before : (s y : ℕ) (ys : List ℕ) → s < y → with_number s (with_number s (y ∷ ys)) ≡ s ∷ y ∷ ys
put_before s y ys h = rw (lt-ltb s y h) (rw (not_lower s, same_number s) refl)

down : (s : ℕ) → rounded_down 1 s ≡ s
down s = omega arith

up : (s : ℕ) → rounded_up 1 s ≡ s
up s = omega arith

put_rounded : (s : ℕ) (rest : List ℕ) → with_number (rounded_down 1 s) (with_number (rounded_up 1 s) rest) ≡ with_number s (with_number s rest)
put_rounded s rest = ap (λ a. with_number a (with_number (rounded_up 1 s) rest)) (down s) ∙ ap (λ a. with_number s (with_number a rest)) (up s)

breaks_from : (n start : ℕ) (starts : List ℕ) → rises_above start starts ≡ true → list_all (λ s. nat_lt s n) (start ∷ starts) ≡ true
    → breaks_of 1 n (start ∷ starts) ≡ start ∷ starts ++ n ∷ []
breaks_from n start [] rises inside =
    put_rounded start (n ∷ []) ∙ put_before start n [] (ltb-true start n (all_split (λ s. nat_lt s n) start [] inside).0)
breaks_from n start (next ∷ starts) rises inside =
    let r = rises_split start next starts rises in
    let later = breaks_from n next starts r.1 (all_split (λ s. nat_lt s n) start (next ∷ starts) inside).1 in
    put_rounded start (breaks_of 1 n (next ∷ starts))
    ∙ ap (λ rest. with_number start (with_number start rest)) later
    ∙ put_before start next (starts ++ n ∷ []) r.0

pub breaks_are : (n : ℕ) (starts : List ℕ) → rises_from_zero starts ≡ true → list_all (λ s. nat_lt s n) starts ≡ true → breaks_of 1 n starts ≡ starts ++ n ∷ []
breaks_are n [] rises inside = absurd (cc)
breaks_are n (start ∷ starts) rises inside = breaks_from n start starts (zero_split start starts rises).1 inside

-- ---- its numbers

module _ {V : Type 0} where
  -- a run, as it is read
  pub run_at : (xs ys : List (ℕ × V)) (i : ℕ) (d : ℕ × V) → xs ≡ ys → i < length ys → slice_get ys i ≡ Some (get_or xs i d)
  run_at xs ys i d e h = rw e (slice_get-get_or ys i d h)

  at_start : (runs : List (ℕ × V)) (n i : ℕ) (d : ℕ × V) → i < length runs → get_or (starts_of runs ++ n ∷ []) i 0 ≡ (get_or runs i d).0
  at_start [] n i d h = absurd (omega arith)
  at_start (run ∷ runs) n zero d h = refl
  at_start (run ∷ runs) n (suc i) d h = at_start runs n i d (omega arith)

  at_end : (runs : List (ℕ × V)) (n : ℕ) → get_or (starts_of runs ++ n ∷ []) (length runs) 0 ≡ n
  at_end [] n = refl
  at_end (run ∷ runs) n = at_end runs n

  count : (runs : List (ℕ × V)) (n : ℕ) → length (starts_of runs ++ n ∷ []) ≡ suc (length runs)
  count [] n = refl
  count (run ∷ runs) n = ap suc (count runs n)

  first : (runs : List (ℕ × V)) (n : ℕ) → rises_from_zero (starts_of runs) ≡ true → get_or (starts_of runs ++ n ∷ []) 0 0 ≡ 0
  first [] n rises = absurd (cc)
  first (run ∷ runs) n rises = (zero_split run.0 (starts_of runs) rises).0

  -- from a run's start up to the next one the value is the run's own
  flat_from : (n : ℕ) (first : ℕ × V) (runs : List (ℕ × V)) → rises_above first.0 (starts_of runs) ≡ true → (i x : ℕ) (run : ℕ × V) → slice_get (first ∷ runs) i ≡ Some run
      → get_or (starts_of (first ∷ runs) ++ n ∷ []) i 0 ≤ x → x < get_or (starts_of (first ∷ runs) ++ n ∷ []) (suc i) 0 → value_at (first ∷ runs) x ≡ Some run.1
  flat_from n first [] rises zero x run e low high = let same : first ≡ run = cc in value_last x first low ∙ ap (λ r. Some r.1) same
  flat_from n first [] rises (suc i) x run e low high = absurd (cc)
  flat_from n first (next ∷ runs) rises zero x run e low high =
      let same : first ≡ run = cc in
      value_here x first next runs (rises_split first.0 next.0 (starts_of runs) rises).1 low high ∙ ap (λ r. Some r.1) same
  flat_from n first (next ∷ runs) rises (suc i) x run e low high =
      rw (flat_from n next runs (rises_split first.0 next.0 (starts_of runs) rises).1 i x run e low high) refl

  flat : (n : ℕ) (runs : List (ℕ × V)) → rises_from_zero (starts_of runs) ≡ true → (i x : ℕ) (run : ℕ × V) → slice_get runs i ≡ Some run
      → get_or (starts_of runs ++ n ∷ []) i 0 ≤ x → x < get_or (starts_of runs ++ n ∷ []) (suc i) 0 → value_at runs x ≡ Some run.1
  flat n [] rises i x run e low high = absurd (cc)
  flat n (first ∷ runs) rises i x run e low high = flat_from n first runs (zero_split first.0 (starts_of runs) rises).1 i x run e low high

module _ {V : Type 0} (levels : Levels V) (n : ℕ) (runs : List (ℕ × V)) (track : IsTrackFunction levels n runs) where
  rises : Rises 0 (starts_of runs ++ n ∷ [])
  rises = subst (Rises 0) (breaks_are n (starts_of runs) track.starts.rising track.starts.inside) (breaks_rise 1 (omega arith) n (starts_of runs))

  next : (i : ℕ) → get_or (starts_of runs ++ n ∷ []) (i + 1) 0 ≡ get_or (starts_of runs ++ n ∷ []) (suc i) 0
  next i = ap (λ k. get_or (starts_of runs ++ n ∷ []) k 0) (omega arith)

  pub are_breaks : (breaks : List ℕ) → breaks ≡ starts_of runs ++ n ∷ [] → AreBreaks (record { steps = runs; end = n }) breaks
  are_breaks breaks e = rw e (record {
    are = sym (breaks_are n (starts_of runs) track.starts.rising track.starts.inside);
    count = count runs n;
    first = first runs n track.starts.rising;
    last = at_end runs n;
    rise = λ i h. omega (arith, next i, rises_at 0 (starts_of runs ++ n ∷ []) i (omega (arith, count runs n)) rises);
    flat = λ i x run at low high. flat n runs track.starts.rising i x run at low (omega (arith, next i));
  })

  -- the list of breaks by its definition has the breaks
  pub in_track : AreBreaks (record { steps = runs; end = n }) (breaks_of 1 n (starts_of runs))
  in_track = are_breaks (breaks_of 1 n (starts_of runs)) (breaks_are n (starts_of runs) track.starts.rising track.starts.inside)

  -- a break is where its run starts, or the end
  pub at_run : (i : ℕ) (d : ℕ × V) → i < length runs → (get_or runs i d).0 ≡ get_or (breaks_of 1 n (starts_of runs)) i 0
  at_run i d h = sym (ap (λ b. get_or b i 0) (breaks_are n (starts_of runs) track.starts.rising track.starts.inside) ∙ at_start runs n i d h)

  pub at_last : (i : ℕ) → i ≡ length runs → n ≡ get_or (breaks_of 1 n (starts_of runs)) i 0
  at_last i e =
      sym (ap (λ k. get_or (breaks_of 1 n (starts_of runs)) k 0) e
      ∙ ap (λ b. get_or b (length runs) 0) (breaks_are n (starts_of runs) track.starts.rising track.starts.inside) ∙ at_end runs n)

-- ---- breaks of a track

module _ {V : Type 0} (track : StepFunction V) (breaks : List ℕ) (are : AreBreaks track breaks) where
  -- they rise
  rises_on : (i count : ℕ) → i + count ≤ length track.steps → get_or breaks i 0 ≤ get_or breaks (i + count) 0
  rises_on i zero h = let same : get_or breaks (i + zero) 0 ≡ get_or breaks i 0 = ap (λ k. get_or breaks k 0) (omega arith) in omega arith
  rises_on i (suc count) h =
      let before = rises_on i count (omega arith) in
      let up = are.rise (i + count) (omega arith) in
      let same : get_or breaks (i + suc count) 0 ≡ get_or breaks (i + count + 1) 0 = ap (λ k. get_or breaks k 0) (omega arith) in
      omega arith

  pub rises_to : (i j : ℕ) → i ≤ j → j ≤ length track.steps → get_or breaks i 0 ≤ get_or breaks j 0
  rises_to i j h inside =
      let there = rises_on i (j - i) (omega arith) in
      let same : get_or breaks (i + (j - i)) 0 ≡ get_or breaks j 0 = ap (λ k. get_or breaks k 0) (omega arith) in
      omega arith

  pub up_to_end : (i : ℕ) → i ≤ length track.steps → get_or breaks i 0 ≤ track.end
  up_to_end i h = let up = rises_to i (length track.steps) h (omega arith) in let last = are.last in omega arith
