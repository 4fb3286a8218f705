-- Jobs that are sorted by their places are the list.
use Rattle.std.proofs.Common.{◌≡◌, ℕ, ◌+◌, ◌<◌, ◌≤◌, ◌==◌, ◌&&◌, ltb, cond, List, [], ◌∷◌, map, get_or, sym, refl, ap, ◌∙◌, ⊎_elim, arith}
use Rattle.std.specs.List.{All, sum_by}
use Rattle.std.specs.List.Sorted.{IsNonDecreasingBy, IsPermutation}
use Rattle.std.proofs.lemmas.Bool.{cases_lt}
use Rattle.std.proofs.lemmas.Bool.Decides.{nat_tests}
use Rattle.std.proofs.lemmas.List.Sorted.{IsNonDecreasingBy-drop, IsPermutation-map, sum_by-IsPermutation}
use Rattle.std.proofs.lemmas.List.Sums.{sum_by-cons, sum_by-le, sum_by-le-sum_by}
use Rattle.rbc_sweep.specs.declared.jobs.Job.{Job}
use Rattle.rbc_sweep.specs.declared.order.Done.{Done}
use Rattle.rbc_sweep.specs.Jobs.{numbered, AreSameJobs}
use Rattle.rbc_sweep.specs.Outcomes.{train_of}
use Rattle.rbc_sweep.specs.Serving.{job_of, jobs, outcome_of, place_of}

abbrev job_at : ℕ → ℕ → Job
job_at place train = record { place = place; train = train }

-- ---- which jobs are counted

abbrev before : ℕ → Job → ℕ
before p job = cond (ltb job.place p) 1 0

abbrev there : ℕ → Job → ℕ
there p job = cond (job.place == p) 1 0

abbrev just : ℕ → ℕ → Job → ℕ
just p t job = cond (job.place == p && job.train == t) 1 0

before_none : (p : ℕ) (job : Job) → before p job ≡ 0 → p ≤ job.place
before_none p job e = grind (arith, nat_tests)

before_not : (p : ℕ) (job : Job) → p ≤ job.place → before p job ≡ 0
before_not p job e = grind (arith, nat_tests)

there_not : (p : ℕ) (job : Job) → p < job.place → there p job ≡ 0
there_not p job e = grind (arith, nat_tests)

there_same : (p : ℕ) (job : Job) → job.place ≡ p → there p job ≡ 1
there_same p job e = grind (arith, nat_tests)

just_same : (p t : ℕ) (job : Job) → job.place ≡ p → job.train ≡ t → just p t job ≡ 1
just_same p t job e f = grind (arith, nat_tests)

just_train : (p t : ℕ) (job : Job) → just p t job ≡ 1 → job.train ≡ t
just_train p t job e = grind (arith, nat_tests)

just_there : (p t : ℕ) (job : Job) → just p t job ≤ there p job
just_there p t job = grind (arith, nat_tests)

-- ---- the list

module _ (weight : Job → ℕ) where
  -- a weight that is 0 of each place from p on is 0 of the list
  numbered_none : (p : ℕ) → ((q t : ℕ) → p ≤ q → weight (job_at q t) ≡ 0) → (trains : List ℕ) → sum_by weight (numbered p trains) ≡ 0
  numbered_none p none [] = refl
  numbered_none p none (t ∷ ts) =
      let here = none p t (omega arith) in
      let rest = numbered_none (p + 1) (λ q s from. none q s (omega arith)) ts in
      omega (arith, sum_by-cons weight (job_at p t) (numbered (p + 1) ts))

-- ---- sorted jobs

module _ {X : Type 0} (job : X → Job) where
  abbrev places : X → ℕ
  places x = (job x).place

  abbrev weighed : (Job → ℕ) → X → ℕ
  weighed weight x = weight (job x)

  pub sum_by-map : (weight : Job → ℕ) (xs : List X) → sum_by weight (map job xs) ≡ sum_by (weighed weight) xs
  sum_by-map weight [] = refl
  sum_by-map weight (x ∷ xs) =
      let rest = sum_by-map weight xs in
      omega (arith, sum_by-cons weight (job x) (map job xs), sum_by-cons (weighed weight) x xs)

  -- beyond p nothing stands at p
  none_there : (p : ℕ) (x : X) (xs : List X) → IsNonDecreasingBy places (x ∷ xs) → p < places x → sum_by (weighed (there p)) (x ∷ xs) ≡ 0
  none_there p x xs sorted beyond =
      let each : All (λ y. weighed (there p) y ≤ 0) (x ∷ xs) = λ k d inside.
      let up : places x ≤ places (get_or (x ∷ xs) k d) = sorted 0 k d (omega arith) inside in
      let none = there_not p (job (get_or (x ∷ xs) k d)) (omega arith) in
      omega arith in
      let most = sum_by-le (weighed (there p)) 0 (x ∷ xs) each in
      omega arith

  module _ (p t : ℕ) (ts : List ℕ) (x : X) (xs : List X) (sorted : IsNonDecreasingBy places (x ∷ xs))
      (same : (weight : Job → ℕ) → sum_by weight (numbered p (t ∷ ts)) ≡ sum_by (weighed weight) (x ∷ xs)) where
    -- the sum over the list and over the jobs, each with its first one apart
    apart : (weight : Job → ℕ) → weight (job_at p t) + sum_by weight (numbered (p + 1) ts) ≡ weight (job x) + sum_by (weighed weight) xs
    apart weight = sym (sum_by-cons weight (job_at p t) (numbered (p + 1) ts)) ∙ same weight ∙ sum_by-cons (weighed weight) x xs

    first_from : p ≤ places x
    first_from =
        let sums = apart (before p) in
        let here = before_not p (job_at p t) (omega arith) in
        let rest = numbered_none (before p) (p + 1) (λ q s from. before_not p (job_at q s) (omega arith)) ts in
        before_none p (job x) (omega arith)

    not_beyond : p < places x → ⊥
    not_beyond beyond =
        let sums = apart (there p) in
        let here = there_same p (job_at p t) refl in
        let none = none_there p x xs sorted beyond in
        omega (arith, sum_by-cons (weighed (there p)) x xs)

    first_there : places x ≡ p
    first_there =
        let from = first_from in
        ⊎_elim (λ (beyond : p < places x). absurd (not_beyond beyond)) (λ (upto : places x ≤ p). omega arith) (cases_lt p (places x))

    first_train : (job x).train ≡ t
    first_train =
        let sums = apart (there p) in
        let sums' = apart (just p t) in
        let one = there_same p (job_at p t) refl in
        let one' = just_same p t (job_at p t) refl refl in
        let here = there_same p (job x) first_there in
        let rest = numbered_none (there p) (p + 1) (λ q s from. there_not p (job_at q s) (omega arith)) ts in
        let rest' = numbered_none (just p t) (p + 1) (λ q s from.
        let none = there_not p (job_at q s) (omega arith) in let most = just_there p t (job_at q s) in omega arith) ts in
        let fewer = sum_by-le-sum_by (weighed (just p t)) (weighed (there p)) xs (λ y. just_there p t (job y)) in
        just_train p t (job x) (omega arith)

    first : job x ≡ job_at p t
    first = λ i. record { place = first_there i; train = first_train i }

    others : (weight : Job → ℕ) → sum_by weight (numbered (p + 1) ts) ≡ sum_by (weighed weight) xs
    others weight = let sums = apart weight in let here : weight (job x) ≡ weight (job_at p t) = ap weight first in omega arith

  -- jobs sorted by their places, of the same weight as the list however they are weighed, are the list
  pub sorted_is_list : (p : ℕ) (trains : List ℕ) (xs : List X) → IsNonDecreasingBy places xs
      → ((weight : Job → ℕ) → sum_by weight (numbered p trains) ≡ sum_by (weighed weight) xs) → map job xs ≡ numbered p trains
  sorted_is_list p [] [] sorted same = refl
  sorted_is_list p [] (x ∷ xs) sorted same = absurd (let one = same (λ job. 1) in omega (arith, sum_by-cons (weighed (λ job. 1)) x xs))
  sorted_is_list p (t ∷ ts) [] sorted same = absurd (let one = same (λ job. 1) in omega (arith, sum_by-cons (λ (job : Job). 1) (job_at p t) (numbered (p + 1) ts)))
  sorted_is_list p (t ∷ ts) (x ∷ xs) sorted same =
      let rest = sorted_is_list (p + 1) ts xs (IsNonDecreasingBy-drop places 1 (x ∷ xs) sorted) (others p t ts x xs sorted same) in
      let here = first p t ts x xs sorted same in
      λ i. here i ∷ rest i

-- ---- what was done

trains_done : (xs : List Done) → map train_of (map outcome_of xs) ≡ map (λ (job : Job). job.train) (jobs xs)
trains_done [] = refl
trains_done (x ∷ xs) = ap (λ l. x.outcome.train ∷ l) (trains_done xs)

trains_numbered : (p : ℕ) (trains : List ℕ) → map (λ (job : Job). job.train) (numbered p trains) ≡ trains
trains_numbered p [] = refl
trains_numbered p (t ∷ ts) = ap (λ l. t ∷ l) (trains_numbered (p + 1) ts)

-- what was done for just the jobs of the list, sorted by their places, has the trains of the list
pub sorted_has_trains : (trains : List ℕ) (done sorted : List Done) → IsPermutation done sorted → IsNonDecreasingBy place_of sorted
    → AreSameJobs (numbered 0 trains) (jobs done) → map train_of (map outcome_of sorted) ≡ trains
sorted_has_trains trains done sorted moved in_order same =
    let jobs_moved : (weight : Job → ℕ) → sum_by weight (numbered 0 trains) ≡ sum_by (λ (x : Done). weight (job_of x)) sorted = λ weight.
    same weight ∙ sym (sum_by-IsPermutation weight (jobs done) (jobs sorted) (IsPermutation-map job_of done sorted moved))
    ∙ sum_by-map job_of weight sorted in
    trains_done sorted ∙ ap (λ js. map (λ (job : Job). job.train) js) (sorted_is_list job_of 0 trains sorted in_order jobs_moved) ∙ trains_numbered 0 trains
