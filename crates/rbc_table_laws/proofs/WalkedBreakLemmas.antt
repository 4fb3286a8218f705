-- Breaks at multiples of a unit, walked from one to the next by the run that lies there.
use Rattle.std.proofs.Common.{◌≡◌, refl, ap, sym, ◌∙◌, arith, subst, ℕ, zero, suc, ◌+◌, ◌-◌, ◌/◌, ◌%◌, ◌<◌, ◌≤◌, ◌⊎◌, inl, inr, Bool, true, false, List, [], ◌∷◌, ◌++◌, length, get_or, nat_lt, ◌==◌, if◌then◌else◌, ltb-true}
use Rattle.std.proofs.Math.Nat.{mul-mod_left}
use Rattle.std.specs.List.{list_all}
use Rattle.std.proofs.lemmas.Bool.{lt-ltb, cases_lt}
use Rattle.std.proofs.lemmas.Bool.Decides.{nat_tests}
use Rattle.rbc_model.specs.Levels.{Levels, IsLawful}
use Rattle.rbc_model.specs.Profiles.{IsTrackFunction, starts_of}
use Rattle.rbc_model.specs.PriceTables.{rounded_down, rounded_up, with_number, breaks_of}
use Rattle.rbc_table_laws.specs.Stretches.{AreBreaksFor, AreWalked, break_behind, break_before}
use Rattle.rbc_table_laws.proofs.RisingNumberLemmas.{Rises, Has, rises_at, not_between, whole_at}
use Rattle.rbc_table_laws.proofs.BreakLemmas.{down_below, up_above, above_down, below_up, breaks_rise, has_end, has_down, has_up, breaks_whole, some_breaks, first_is, last_is, track_some}
use Rattle.rbc_table_laws.proofs.TrackBreakLemmas.{breaks_are}
use Rattle.rbc_model.proofs.ScanLemmas.{le_or_lt}
use Rattle.rbc_model.proofs.StepListLemmas.{all_split}

-- ---- numbers of a list

-- what stands in a list with one number more
of_put : (z x y : ℕ) (ys : List ℕ) (below same : Bool) → (x == y) ≡ same → (Has z (with_number x ys) → (z ≡ x) ⊎ Has z ys)
    → Has z (if below then x ∷ y ∷ ys else if same then y ∷ ys else y ∷ with_number x ys) → (z ≡ x) ⊎ Has z (y ∷ ys)
of_put z x y ys true same e rest (inl h) = inl h
of_put z x y ys true same e rest (inr h) = inr h
of_put z x y ys false true e rest h = inr h
of_put z x y ys false false e rest (inl h) = inr (inl h)
of_put z x y ys false false e rest (inr h) = elim (rest h) [ inl same ↦ inl same | inr there ↦ inr (inr there) ]

of_with : (z x : ℕ) (ys : List ℕ) → Has z (with_number x ys) → (z ≡ x) ⊎ Has z ys
of_with z x [] (inl h) = inl h
of_with z x [] (inr h) = absurd h
of_with z x (y ∷ ys) h = of_put z x y ys (nat_lt x y) (x == y) refl (of_with z x ys) h

has_at : (ys : List ℕ) (i : ℕ) → i < length ys → Has (get_or ys i 0) ys
has_at [] i h = absurd (omega arith)
has_at (y ∷ ys) zero h = inl refl
has_at (y ∷ ys) (suc i) h = inr (has_at ys i (omega arith))

-- a break is the end, or is rounded from a start
record IsRounded (unit z : ℕ) (starts : List ℕ) : Type 0 where
  start : ℕ
  listed : Has start starts
  rounded : (z ≡ rounded_down unit start) ⊎ (z ≡ rounded_up unit start)

later_start : (unit z start : ℕ) (starts : List ℕ) → IsRounded unit z starts → IsRounded unit z (start ∷ starts)
later_start unit z start starts r = record { start = r.start; listed = inr r.listed; rounded = r.rounded }

break_said : (unit n z : ℕ) (starts : List ℕ) → Has z (breaks_of unit n starts) → (z ≡ n) ⊎ IsRounded unit z starts
break_said unit n z [] (inl h) = inl h
break_said unit n z [] (inr h) = absurd h
break_said unit n z (start ∷ starts) h =
    elim (of_with z (rounded_down unit start) (with_number (rounded_up unit start) (breaks_of unit n starts)) h) [
      | inl down ↦ inr (record { start = start; listed = inl refl; rounded = inl down })
      | inr rest ↦ elim (of_with z (rounded_up unit start) (breaks_of unit n starts) rest) [
        | inl up ↦ inr (record { start = start; listed = inl refl; rounded = inr up })
        | inr later ↦ elim (break_said unit n z starts later) [ inl e ↦ inl e | inr r ↦ inr (later_start unit z start starts r) ]
      ]
    ]

start_inside : (n s : ℕ) (starts : List ℕ) → list_all (λ start. nat_lt start n) starts ≡ true → Has s starts → s < n
start_inside n s [] all h = absurd h
start_inside n s (start ∷ starts) all (inl e) = let first = ltb-true start n (all_split (λ k. nat_lt k n) start starts all).0 in omega arith
start_inside n s (start ∷ starts) all (inr h) = start_inside n s starts (all_split (λ k. nat_lt k n) start starts all).1 h

-- ---- rounding

module _ (unit : ℕ) (some : 0 < unit) where
  -- a multiple that is no higher than a number is no higher than that rounded down, and the same upwards
  at_most_down : (s z : ℕ) → z % unit ≡ 0 → z ≤ s → z ≤ rounded_down unit s
  at_most_down s z whole h = elim (le_or_lt z (rounded_down unit s)) [
    | inl low ↦ low
    | inr high ↦ let above = above_down unit some s z whole high in absurd (omega arith)
  ]

  at_least_up : (s z : ℕ) → z % unit ≡ 0 → s ≤ z → rounded_up unit s ≤ z
  at_least_up s z whole h = elim (le_or_lt (rounded_up unit s) z) [
    | inl low ↦ low
    | inr high ↦ let below = below_up unit some s z whole high in absurd (omega arith)
  ]

  down_whole : (s : ℕ) → rounded_down unit s % unit ≡ 0
  down_whole s = mul-mod_left (s / unit) unit

  up_whole : (s : ℕ) → rounded_up unit s % unit ≡ 0
  up_whole s = mul-mod_left ((s + (unit - 1)) / unit) unit

  down_rises : (s t : ℕ) → s ≤ t → rounded_down unit s ≤ rounded_down unit t
  down_rises s t h = let low = down_below unit some s in at_most_down t (rounded_down unit s) (down_whole s) (omega arith)

  up_rises : (s t : ℕ) → s ≤ t → rounded_up unit s ≤ rounded_up unit t
  up_rises s t h = let high = up_above unit some t in at_least_up s (rounded_up unit t) (up_whole t) (omega arith)

  -- which of the two a break is, by a test
  behind_down : (x stop : ℕ) → x < rounded_down unit stop → break_behind unit x stop ≡ rounded_down unit stop
  behind_down x stop h = rw (lt-ltb x (rounded_down unit stop) h) refl

  behind_up : (x stop : ℕ) → rounded_down unit stop ≤ x → break_behind unit x stop ≡ rounded_up unit stop
  behind_up x stop h = let not_yet : nat_lt x (rounded_down unit stop) ≡ false = grind (arith, nat_tests) in rw not_yet refl

  before_up : (x start : ℕ) → rounded_up unit start < x → break_before unit x start ≡ rounded_up unit start
  before_up x start h = rw (lt-ltb (rounded_up unit start) x h) refl

  before_down : (x start : ℕ) → x ≤ rounded_up unit start → break_before unit x start ≡ rounded_down unit start
  before_down x start h = let not_yet : nat_lt (rounded_up unit start) x ≡ false = grind (arith, nat_tests) in rw not_yet refl

-- ---- edges of runs

module _ (n : ℕ) where
  abbrev edges_from : List ℕ → List ℕ
  edges_from starts = starts ++ n ∷ []

  edge_is : (starts : List ℕ) (r : ℕ) → r < length starts → Has (get_or (edges_from starts) r 0) starts
  edge_is [] r h = absurd (omega arith)
  edge_is (start ∷ starts) zero h = inl refl
  edge_is (start ∷ starts) (suc r) h = inr (edge_is starts r (omega arith))

  last_edge : (starts : List ℕ) → get_or (edges_from starts) (length starts) 0 ≡ n
  last_edge [] = refl
  last_edge (start ∷ starts) = last_edge starts

  start_or_end : (starts : List ℕ) (r : ℕ) → r ≤ length starts → Has (get_or (edges_from starts) r 0) starts ⊎ (get_or (edges_from starts) r 0 ≡ n)
  start_or_end starts r h = elim (le_or_lt (length starts) r) [
    | inl last ↦ let same : r ≡ length starts = omega arith in inr (rw same (last_edge starts))
    | inr before ↦ inl (edge_is starts r before)
  ]

  has_edge : (s : ℕ) (starts : List ℕ) → Has s starts → Has s (edges_from starts)
  has_edge s [] h = absurd h
  has_edge s (start ∷ starts) (inl h) = inl h
  has_edge s (start ∷ starts) (inr h) = inr (has_edge s starts h)

length_edges : (starts : List ℕ) (n : ℕ) → length (starts ++ n ∷ []) ≡ suc (length starts)
length_edges [] n = refl
length_edges (start ∷ starts) n = ap suc (length_edges starts n)

length_starts : {V : Type 0} (runs : List (ℕ × V)) → length (starts_of runs) ≡ length runs
length_starts [] = refl
length_starts (run ∷ runs) = ap suc (length_starts runs)

-- ---- from break to break

module _ {V : Type 0} (levels : Levels V) (lawful : IsLawful levels) (unit : ℕ) (some : 0 < unit) (n : ℕ) (whole : n % unit ≡ 0) (runs : List (ℕ × V)) (track : IsTrackFunction levels n runs) where
  abbrev starts : List ℕ
  starts = starts_of runs

  abbrev breaks : List ℕ
  breaks = breaks_of unit n starts

  abbrev edges : List ℕ
  edges = starts ++ n ∷ []

  edges_rise : Rises 0 edges
  edges_rise = subst (Rises 0) (breaks_are n starts track.starts.rising track.starts.inside) (breaks_rise 1 (omega arith) n starts)

  -- no run starts between a run's edges
  not_inside : (r s : ℕ) → r < length runs → Has s starts → (s ≤ get_or edges r 0) ⊎ (get_or edges (suc r) 0 ≤ s)
  not_inside r s h listed =
      let count = length_edges starts n in
      let runs_are = length_starts runs in
      not_between 0 s edges r (omega arith) edges_rise (has_edge n s starts listed)

  break_rises : (i : ℕ) → suc i < length breaks → get_or breaks i 0 < get_or breaks (suc i) 0
  break_rises i h = rises_at 0 breaks i h (breaks_rise unit some n starts)

  whole_break : (i : ℕ) → i < length breaks → get_or breaks i 0 % unit ≡ 0
  whole_break i h = whole_at unit breaks i h (breaks_whole unit some n whole starts)

  down_end : rounded_down unit n ≡ n
  down_end = let low = down_below unit some n in let high = at_most_down unit some n n whole (omega arith) in omega arith

  up_end : rounded_up unit n ≡ n
  up_end = let high = up_above unit some n in let low = at_least_up unit some n n whole (omega arith) in omega arith

  -- an edge, rounded either way, is a break
  has_rounded_down : (t : ℕ) → Has t starts ⊎ (t ≡ n) → Has (rounded_down unit t) breaks
  has_rounded_down t (inl listed) = has_down unit some n t starts listed
  has_rounded_down t (inr e) = subst (λ z. Has z breaks) (sym (ap (rounded_down unit) e ∙ down_end)) (has_end unit some n starts)

  has_rounded_up : (t : ℕ) → Has t starts ⊎ (t ≡ n) → Has (rounded_up unit t) breaks
  has_rounded_up t (inl listed) = has_up unit some n t starts listed
  has_rounded_up t (inr e) = subst (λ z. Has z breaks) (sym (ap (rounded_up unit) e ∙ up_end)) (has_end unit some n starts)

  -- no break lies between two that follow one another
  next_at_most : (i z : ℕ) → suc i < length breaks → Has z breaks → get_or breaks i 0 < z → get_or breaks (suc i) 0 ≤ z
  next_at_most i z h listed above = elim (not_between 0 z breaks i h (breaks_rise unit some n starts) listed) [
    | inl low ↦ absurd (omega arith)
    | inr high ↦ high
  ]

  last_at_least : (i z : ℕ) → suc i < length breaks → Has z breaks → z < get_or breaks (suc i) 0 → z ≤ get_or breaks i 0
  last_at_least i z h listed below = elim (not_between 0 z breaks i h (breaks_rise unit some n starts) listed) [
    | inl low ↦ low
    | inr high ↦ absurd (omega arith)
  ]

  edge_inside : (t : ℕ) → Has t starts ⊎ (t ≡ n) → t ≤ n
  edge_inside t (inl listed) = let low = start_inside n t starts track.starts.inside listed in omega arith
  edge_inside t (inr e) = omega arith

  module _ (i r : ℕ) (more : suc i < length breaks) (inside : r < length runs) where
    abbrev here : ℕ
    here = get_or breaks i 0

    abbrev next : ℕ
    next = get_or breaks (suc i) 0

    abbrev start : ℕ
    start = get_or edges r 0

    abbrev stop : ℕ
    stop = get_or edges (suc r) 0

    start_is : Has start starts
    start_is = let runs_are = length_starts runs in edge_is n starts r (omega arith)

    stop_is : Has stop starts ⊎ (stop ≡ n)
    stop_is = let runs_are = length_starts runs in start_or_end n starts (suc r) (omega arith)

    stop_inside : stop ≤ n
    stop_inside = edge_inside stop stop_is

    -- ---- the break behind a place of the run

    module _ (low : start ≤ here) (high : here < stop) where
      down_or_up : (here < rounded_down unit stop) ⊎ (rounded_down unit stop ≤ here)
      down_or_up = cases_lt here (rounded_down unit stop)

      behind_listed : (here < rounded_down unit stop) ⊎ (rounded_down unit stop ≤ here) → Has (break_behind unit here stop) breaks × (here < break_behind unit here stop)
      behind_listed (inl down) = rw (behind_down unit some here stop down) (has_rounded_down stop stop_is, down)
      behind_listed (inr up) = let above = up_above unit some stop in rw (behind_up unit some here stop up) (has_rounded_up stop stop_is, omega arith)

      at_most_up : (here < rounded_down unit stop) ⊎ (rounded_down unit stop ≤ here) → break_behind unit here stop ≤ rounded_up unit stop
      at_most_up (inl down) = let below = down_below unit some stop in let above = up_above unit some stop in rw (behind_down unit some here stop down) (omega arith)
      at_most_up (inr up) = rw (behind_up unit some here stop up) (omega arith)

      -- no break behind the place lies before it
      least_far : (z : ℕ) → z % unit ≡ 0 → stop ≤ z → break_behind unit here stop ≤ z
      least_far z cut h = let up = at_least_up unit some stop z cut h in let most = at_most_up down_or_up in omega arith

      least_down : (z s : ℕ) → z % unit ≡ 0 → here < z → z < stop → Has s starts → z ≡ rounded_down unit s → break_behind unit here stop ≤ z
      least_down z s cut above below listed e =
          let under = down_below unit some s in
          elim (not_inside r s inside listed) [
            | inl early ↦ absurd (omega arith)
            | inr late ↦
                let up = down_rises unit some stop s late in
                let down = at_most_down unit some stop z cut (omega arith) in
                let test = behind_down unit some here stop (omega arith) in
                omega arith
          ]

      least_up : (z s : ℕ) → here < z → z < stop → Has s starts → z ≡ rounded_up unit s → break_behind unit here stop ≤ z
      least_up z s above below listed e =
          let over = up_above unit some s in
          elim (not_inside r s inside listed) [
            | inl early ↦ let up = at_least_up unit some s here (whole_break i (omega arith)) (omega arith) in absurd (omega arith)
            | inr late ↦ absurd (omega arith)
          ]

      least_near : (z : ℕ) → z % unit ≡ 0 → here < z → z < stop → (z ≡ n) ⊎ IsRounded unit z starts → break_behind unit here stop ≤ z
      least_near z cut above below (inl e) = let end = stop_inside in absurd (omega arith)
      least_near z cut above below (inr r) = elim r.rounded [
        | inl down ↦ least_down z r.start cut above below r.listed down
        | inr up ↦ least_up z r.start above below r.listed up
      ]

      pub next_is : next ≡ break_behind unit here stop
      next_is =
          let rises = break_rises i more in
          let cut = whole_break (suc i) more in
          let there = behind_listed down_or_up in
          let most = next_at_most i (break_behind unit here stop) more there.0 there.1 in
          let least : break_behind unit here stop ≤ next = elim (le_or_lt stop next) [
            | inl far ↦ least_far next cut far
            | inr near ↦ least_near next cut rises near (break_said unit n next starts (has_at breaks (suc i) more))
          ] in
          omega arith

    -- ---- the break before a place behind the run's start

    module _ (low : start < next) (high : next ≤ stop) where
      up_or_down : (rounded_up unit start < next) ⊎ (next ≤ rounded_up unit start)
      up_or_down = cases_lt (rounded_up unit start) next

      before_listed : (rounded_up unit start < next) ⊎ (next ≤ rounded_up unit start) → Has (break_before unit next start) breaks × (break_before unit next start < next)
      before_listed (inl up) = rw (before_up unit some next start up) (has_rounded_up start (inl start_is), up)
      before_listed (inr down) = let below = down_below unit some start in rw (before_down unit some next start down) (has_rounded_down start (inl start_is), omega arith)

      at_least_down : (rounded_up unit start < next) ⊎ (next ≤ rounded_up unit start) → rounded_down unit start ≤ break_before unit next start
      at_least_down (inl up) = let below = down_below unit some start in let above = up_above unit some start in rw (before_up unit some next start up) (omega arith)
      at_least_down (inr down) = rw (before_down unit some next start down) (omega arith)

      greatest_far : (z : ℕ) → z % unit ≡ 0 → z ≤ start → z ≤ break_before unit next start
      greatest_far z cut h = let down = at_most_down unit some start z cut h in let least = at_least_down up_or_down in omega arith

      greatest_up : (z s : ℕ) → z % unit ≡ 0 → start < z → z < next → Has s starts → z ≡ rounded_up unit s → z ≤ break_before unit next start
      greatest_up z s cut above below listed e =
          let over = up_above unit some s in
          elim (not_inside r s inside listed) [
            | inl early ↦
                let up = up_rises unit some s start early in
                let down = at_least_up unit some start z cut (omega arith) in
                let test = before_up unit some next start (omega arith) in
                omega arith
            | inr late ↦ absurd (omega arith)
          ]

      greatest_down : (z s : ℕ) → start < z → z < next → Has s starts → z ≡ rounded_down unit s → z ≤ break_before unit next start
      greatest_down z s above below listed e =
          let under = down_below unit some s in
          elim (not_inside r s inside listed) [
            | inl early ↦ absurd (omega arith)
            | inr late ↦ let up = at_most_down unit some s next (whole_break (suc i) more) (omega arith) in absurd (omega arith)
          ]

      greatest_near : (z : ℕ) → z % unit ≡ 0 → start < z → z < next → (z ≡ n) ⊎ IsRounded unit z starts → z ≤ break_before unit next start
      greatest_near z cut above below (inl e) = let end = stop_inside in absurd (omega arith)
      greatest_near z cut above below (inr r) = elim r.rounded [
        | inl down ↦ greatest_down z r.start above below r.listed down
        | inr up ↦ greatest_up z r.start cut above below r.listed up
      ]

      pub here_is : here ≡ break_before unit next start
      here_is =
          let rises = break_rises i more in
          let cut = whole_break i (omega arith) in
          let there = before_listed up_or_down in
          let least = last_at_least i (break_before unit next start) more there.0 there.1 in
          let most : here ≤ break_before unit next start = elim (le_or_lt here start) [
            | inl far ↦ greatest_far here cut far
            | inr near ↦ greatest_near here cut near rises (break_said unit n here starts (has_at breaks i (omega arith)))
          ] in
          omega arith

  at_next : (xs : List ℕ) (i : ℕ) → get_or xs (i + 1) 0 ≡ get_or xs (suc i) 0
  at_next xs i = ap (λ k. get_or xs k 0) (omega arith)

  pub are_breaks_for : AreBreaksFor unit (record { steps = runs; end = n }) breaks
  are_breaks_for =
      let first = first_is levels lawful unit 1 n some whole runs track in
      let last = last_is levels lawful unit 1 n some whole runs track in
      let end = track_some levels n runs track in
      record {
        are = refl;
        some = more_than_one breaks n end (some_breaks levels lawful unit 1 n some whole runs track) first last;
        first = first;
        last = last;
        rise = λ i h. omega (arith, at_next breaks i, break_rises i (omega arith));
        whole = whole_break;
      }
    where
      more_than_one : (xs : List ℕ) (n : ℕ) → 0 < n → 0 < length xs → get_or xs 0 0 ≡ 0 → get_or xs (length xs - 1) 0 ≡ n → 1 < length xs
      more_than_one [] n end none first last = absurd (omega arith)
      more_than_one (x ∷ []) n end one first last = absurd (omega arith)
      more_than_one (x ∷ y ∷ xs) n end two first last = omega arith

  pub are_walked : (edges_there : List ℕ) → edges_there ≡ starts ++ n ∷ [] → AreWalked unit (record { steps = runs; end = n }) edges_there breaks
  are_walked edges_there e = rw e (record {
    behind = λ i r more inside low high.
        at_next breaks i ∙ next_is i r (omega arith) inside low (omega (arith, at_next edges r))
        ∙ ap (break_behind unit (get_or breaks i 0)) (sym (at_next edges r));
    before = λ i r more inside low high.
        here_is i r (omega arith) inside (omega (arith, at_next breaks i)) (omega (arith, at_next breaks i, at_next edges r))
        ∙ ap (λ x. break_before unit x (get_or edges r 0)) (sym (at_next breaks i));
  })
