-- Each move of a pass keeps the balance.
use Rattle.std.proofs.Common.{◌≡◌, ◌≢◌, ℕ, zero, suc, ◌+◌, ◌-◌, ◌<◌, ◌≤◌, List, [], ◌∷◌, ◌++◌, set, length, take, get_or, add-one, add-zero, zero-add, sym, refl, ap, ◌∙◌, subst, ⊎_elim, arith}
use mathlib.Core.Option.{some, some-injective, some-ne-none}
use lib.ListN.{get_elem?}
use Rattle.std.specs.List.{sum_by}
use Rattle.std.proofs.lemmas.List.Sums.{sum_by-cons, sum_by-append, sum_by_push}
use Rattle.crossbeam_queue.specs.Fifo.{Pushes, Pops, Forks, Merges, Learns}
use Rattle.crossbeam_queue.proofs.Lists.{at_set, at_snoc, set_else}
use Rattle.rbc_sweep.specs.declared.jobs.Job.{Job}
use Rattle.rbc_sweep.specs.declared.jobs.Tally.{Tally}
use Rattle.rbc_sweep.specs.Jobs.{all_parts, tally, numbered, IdleIsEmpty, IsBalanced, Knows}

-- ---- totals over all passes

total_set : (f : Tally → ℕ) (vs : List Tally) (i : ℕ) (v w : Tally) → get_elem? vs i ≡ some v → sum_by f (set vs i w) + f v ≡ sum_by f vs + f w
total_set f [] i v w at = absurd (some-ne-none v (sym at))
total_set f (u ∷ us) zero v w at =
    let same : f u ≡ f v = ap f (some-injective u v at) in
    omega (arith, sum_by-cons f u us, sum_by-cons f w us)
total_set f (u ∷ us) (suc i) v w at =
    let rest = total_set f us i v w at in
    omega (arith, sum_by-cons f u us, sum_by-cons f u (set us i w))

at_most_total : (f : Tally → ℕ) (vs : List Tally) (i : ℕ) (v : Tally) → get_elem? vs i ≡ some v → f v ≤ sum_by f vs
at_most_total f [] i v at = absurd (some-ne-none v (sym at))
at_most_total f (u ∷ us) zero v at =
    let same : f u ≡ f v = ap f (some-injective u v at) in
    omega (arith, sum_by-cons f u us)
at_most_total f (u ∷ us) (suc i) v at = let rest = at_most_total f us i v at in omega (arith, sum_by-cons f u us)

module _ (f : Tally → ℕ) where
  -- f is 0 of each pass with no part
  abbrev IdleIsNothing : List Tally → Type 0
  IdleIsNothing vs = (i : ℕ) (v : Tally) → get_elem? vs i ≡ some v → v.parts ≡ 0 → f v ≡ 0

  none_total : (vs : List Tally) → IdleIsNothing vs → sum_by (λ (v : Tally). v.parts) vs ≡ 0 → sum_by f vs ≡ 0
  none_total [] idle none = refl
  none_total (v ∷ vs) idle none =
      let parts : v.parts + sum_by (λ (v : Tally). v.parts) vs ≡ 0 = sym (sum_by-cons (λ (v : Tally). v.parts) v vs) ∙ none in
      let here : f v ≡ 0 = idle 0 v refl (omega arith) in
      let rest : sum_by f vs ≡ 0 = none_total vs (λ i u at. idle (suc i) u at) (omega arith) in
      omega (arith, sum_by-cons f v vs)

  only_total : (vs : List Tally) (i : ℕ) (v : Tally) → get_elem? vs i ≡ some v → IdleIsNothing vs → sum_by (λ (v : Tally). v.parts) vs ≡ v.parts → sum_by f vs ≡ f v
  only_total [] i v at idle all = absurd (some-ne-none v (sym at))
  only_total (u ∷ us) zero v at idle all =
      let same : u ≡ v = some-injective u v at in
      let parts : u.parts + sum_by (λ (v : Tally). v.parts) us ≡ v.parts = sym (sum_by-cons (λ (v : Tally). v.parts) u us) ∙ all in
      let own : u.parts ≡ v.parts = ap (λ (w : Tally). w.parts) same in
      let rest : sum_by f us ≡ 0 = none_total us (λ i w at. idle (suc i) w at) (omega arith) in
      let here : f u ≡ f v = ap f same in
      omega (arith, sum_by-cons f u us)
  only_total (u ∷ us) (suc i) v at idle all =
      let parts : u.parts + sum_by (λ (v : Tally). v.parts) us ≡ v.parts = sym (sum_by-cons (λ (v : Tally). v.parts) u us) ∙ all in
      let most : v.parts ≤ sum_by (λ (v : Tally). v.parts) us = at_most_total (λ (v : Tally). v.parts) us i v at in
      let here : f u ≡ 0 = idle 0 u refl (omega arith) in
      let rest : sum_by f us ≡ f v = only_total us i v at (λ i w at. idle (suc i) w at) (omega arith) in
      omega (arith, sum_by-cons f u us)

-- ---- passes with no part

idle_set : (vs : List Tally) (i : ℕ) (w : Tally) → (w.parts ≡ 0 → (w.put ≡ []) × (w.taken ≡ [])) → IdleIsEmpty vs → IdleIsEmpty (set vs i w)
idle_set vs i w mine idle j u at none =
    ⊎_elim (λ (x : (j ≡ i) × (w ≡ u)). subst (λ (y : Tally). y.parts ≡ 0 → (y.put ≡ []) × (y.taken ≡ [])) x.1 mine none)
    (λ (x : (j ≢ i) × (get_elem? vs j ≡ some u)). idle j u x.1 none) (at_set vs i j w u at)

idle_more : (vs : List Tally) (w : Tally) → (w.parts ≡ 0 → (w.put ≡ []) × (w.taken ≡ [])) → IdleIsEmpty vs → IdleIsEmpty (vs ++ w ∷ [])
idle_more vs w mine idle j u at none =
    ⊎_elim (λ (x : get_elem? vs j ≡ some u). idle j u x none)
    (λ (x : w ≡ u). subst (λ (y : Tally). y.parts ≡ 0 → (y.put ≡ []) × (y.taken ≡ [])) x mine none) (at_snoc vs w u j at)

-- ---- the moves

pub begins : IsBalanced [] (tally all_parts [] [] ∷ [])
begins = (refl, (λ weight. refl), λ i v at none. absurd (no_part i v at none))
  where
    no_part : (i : ℕ) (v : Tally) → get_elem? (tally all_parts [] [] ∷ []) i ≡ some v → v.parts ≡ 0 → ⊥
    no_part zero v at none =
        let parts : all_parts ≡ v.parts = ap (λ (w : Tally). w.parts) (some-injective (tally all_parts [] []) v at) in
        omega arith
    no_part (suc i) v at none = some-ne-none v (sym at)

pub puts : (n i : ℕ) (v : Tally) (job : Job) → 0 < v.parts → Pushes IsBalanced n i v job (λ w. w ≡ tally v.parts (v.put ++ job ∷ []) v.taken)
puts n i v job some_part waiting vs room balanced at =
    let w = tally v.parts (v.put ++ job ∷ []) v.taken in (
      w,
      (
        (let parts = total_set (λ u. u.parts) vs i v w at in let all = balanced.0 in omega arith),
        (λ weight.
            let put = total_set (λ u. sum_by weight u.put) vs i v w at in
            let taken = total_set (λ u. sum_by weight u.taken) vs i v w at in
            let was = balanced.1 weight in
            omega (arith, sum_by_push weight v.put job, sum_by_push weight waiting job)),
        idle_set vs i w (λ none. absurd (omega arith)) balanced.2,
      ),
      refl,
    )

pub takes : (i : ℕ) (v : Tally) → 0 < v.parts → Pops IsBalanced i v (λ job w. w ≡ tally v.parts v.put (v.taken ++ job ∷ []))
takes i v some_part job waiting vs balanced at =
    let w = tally v.parts v.put (v.taken ++ job ∷ []) in (
      w,
      (
        (let parts = total_set (λ u. u.parts) vs i v w at in let all = balanced.0 in omega arith),
        (λ weight.
            let put = total_set (λ u. sum_by weight u.put) vs i v w at in
            let taken = total_set (λ u. sum_by weight u.taken) vs i v w at in
            let was = balanced.1 weight in
            omega (arith, sum_by_push weight v.taken job, sum_by-cons weight job waiting)),
        idle_set vs i w (λ none. absurd (omega arith)) balanced.2,
      ),
      refl,
    )

pub forks : (i : ℕ) (v : Tally) → 1 < v.parts → Forks IsBalanced i v (tally (v.parts - 1) v.put v.taken) (tally 1 [] [])
forks i v two_parts waiting vs balanced at =
    let left = tally (v.parts - 1) v.put v.taken in
    let right = tally 1 [] [] in
    let both = set vs i left in (
      (let parts = total_set (λ u. u.parts) vs i v left at in let all = balanced.0 in omega (arith, sum_by_push (λ (u : Tally). u.parts) both right)),
      (λ weight.
          let put = total_set (λ u. sum_by weight u.put) vs i v left at in
          let taken = total_set (λ u. sum_by weight u.taken) vs i v left at in
          let was = balanced.1 weight in
          omega (arith, sum_by_push (λ (u : Tally). sum_by weight u.put) both right, sum_by_push (λ (u : Tally). sum_by weight u.taken) both right)),
      idle_more both right (λ none. absurd (omega arith)) (idle_set vs i left (λ none. absurd (omega arith)) balanced.2),
    )

pub merges : (i : ℕ) (v : Tally) (j : ℕ) (u : Tally) → Merges IsBalanced i v j u (tally (v.parts + u.parts) (v.put ++ u.put) (v.taken ++ u.taken)) (tally 0 [] [])
merges i v j u waiting vs balanced at other at' =
    let both = tally (v.parts + u.parts) (v.put ++ u.put) (v.taken ++ u.taken) in
    let spent = tally 0 [] [] in
    let once = set vs i both in
    let there : get_elem? vs j ≡ some u = sym (set_else vs i j both other) ∙ at' in (
      (let one = total_set (λ u. u.parts) vs i v both at in let two = total_set (λ u. u.parts) once j u spent at' in let all = balanced.0 in omega arith),
      (λ weight.
          let put = total_set (λ u. sum_by weight u.put) vs i v both at in
          let put' = total_set (λ u. sum_by weight u.put) once j u spent at' in
          let taken = total_set (λ u. sum_by weight u.taken) vs i v both at in
          let taken' = total_set (λ u. sum_by weight u.taken) once j u spent at' in
          let was = balanced.1 weight in
          omega (arith, sum_by-append weight v.put u.put, sum_by-append weight v.taken u.taken)),
      idle_set once j spent (λ none. (refl, refl))
          (idle_set vs i both (λ none. empty v u (balanced.2 i v at (omega arith)) (balanced.2 j u there (omega arith))) balanced.2),
    )
  where
    empty : (v u : Tally) → (v.put ≡ []) × (v.taken ≡ []) → (u.put ≡ []) × (u.taken ≡ []) → (v.put ++ u.put ≡ []) × (v.taken ++ u.taken ≡ [])
    empty v u p q = (ap (λ l. l ++ u.put) p.0 ∙ q.0, ap (λ l. l ++ u.taken) p.1 ∙ q.1)

pub learns : (i : ℕ) (v : Tally) → Learns IsBalanced i v (Knows v)
learns i v waiting vs balanced at all weight =
    let parts : sum_by (λ (u : Tally). u.parts) vs ≡ v.parts = balanced.0 ∙ sym all in
    let put : sum_by (λ (u : Tally). sum_by weight u.put) vs ≡ sum_by weight v.put =
    only_total (λ u. sum_by weight u.put) vs i v at (λ j u there none. ap (λ l. sum_by weight l) (balanced.2 j u there none).0) parts in
    let taken : sum_by (λ (u : Tally). sum_by weight u.taken) vs ≡ sum_by weight v.taken =
    only_total (λ u. sum_by weight u.taken) vs i v at (λ j u there none. ap (λ l. sum_by weight l) (balanced.2 j u there none).1) parts in
    sym put ∙ balanced.1 weight ∙ ap (λ n. n + sum_by weight waiting) taken ∙ sym (sum_by-append weight v.taken waiting)

-- ---- what was put

pub count : {X : Type 0} (xs : List X) → sum_by (λ (x : X). 1) xs ≡ length xs
count [] = refl
count (x ∷ xs) = let rest = count xs in omega (arith, sum_by-cons (λ x. 1) x xs)

-- a queue that has not all that it has room for is not full
pub not_full : (room : ℕ) (v : Tally) (waiting : List Job) → v.parts ≡ all_parts → v.taken ≡ [] → length v.put < room → length waiting ≡ room → Knows v waiting → ⊥
not_full room v waiting all none some_room full knows =
    let weighed = knows all (λ job. 1) in
    let taken : sum_by (λ (job : Job). 1) v.taken ≡ 0 = ap (λ jobs. sum_by (λ (job : Job). 1) jobs) none in
    omega (arith, count v.put, count waiting, sum_by-append (λ (job : Job). 1) v.taken waiting)

pub length-numbered : (place : ℕ) (trains : List ℕ) → length (numbered place trains) ≡ length trains
length-numbered place [] = refl
length-numbered place (train ∷ trains) = ap suc (length-numbered (place + 1) trains)

pub numbered_more : (place i : ℕ) (trains : List ℕ) (d : ℕ) → i < length trains
    → numbered place (take (suc i) trains) ≡ numbered place (take i trains) ++ record { place = place + i; train = get_or trains i d } ∷ []
numbered_more place i [] d inside = absurd (omega arith)
numbered_more place zero (train ∷ trains) d inside =
    let here : ℕ → List Job = λ p. record { place = p; train = train } ∷ [] in
    ap here (sym (add-zero place))
numbered_more place (suc i) (train ∷ trains) d inside =
    let here : Job = record { place = place; train = train } in
    let next : ℕ → List Job = λ p. numbered (place + 1) (take i trains) ++ record { place = p; train = get_or trains i d } ∷ [] in
    let same : place + 1 + i ≡ place + suc i = omega arith in
    let rest : numbered (place + 1) (take (suc i) trains) ≡ next (place + suc i) = numbered_more (place + 1) i trains d (omega arith) ∙ ap next same in
    ap (λ (jobs : List Job). here ∷ jobs) rest

pub put_more : (trains : List ℕ) (i d : ℕ) (v w : Tally) → i < length trains → v ≡ tally all_parts (numbered 0 (take i trains)) []
    → w ≡ tally all_parts (v.put ++ record { place = i; train = get_or trains i d } ∷ []) [] → w ≡ tally all_parts (numbered 0 (take (i + 1) trains)) []
put_more trains i d v w inside before after =
    let job : ℕ → Job = λ p. record { place = p; train = get_or trains i d } in
    let put : List Job → Tally = λ jobs. tally all_parts jobs [] in
    let all : numbered 0 (take i trains) ++ job i ∷ [] ≡ numbered 0 (take (i + 1) trains) =
    ap (λ p. numbered 0 (take i trains) ++ job p ∷ []) (sym (zero-add i)) ∙ sym (numbered_more 0 i trains d inside)
    ∙ ap (λ n. numbered 0 (take n trains)) (sym (add-one i)) in
    after ∙ ap (λ (u : Tally). put (u.put ++ job i ∷ [])) before ∙ ap put all
