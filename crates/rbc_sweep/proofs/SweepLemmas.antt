-- What the crew and the last seat have done is the list, and the seats have gained what was granted.
use Rattle.std.proofs.Common.{Result, Ok, Err, IfOk, OnErr, [], ◌∷◌, ◌≡◌, ℕ, ◌+◌, ◌-◌, ◌<◌, List, ◌++◌, length, map, fold, sym, ap, ◌∙◌, subst, arith}
use Rattle.std.specs.List.{All, AllZip, flat_map, sum_by}
use Rattle.std.specs.List.Sorted.{IsPermutation}
use Rattle.std.proofs.lemmas.List.{length-map}
use Rattle.std.proofs.lemmas.List.Elements.{All-append, All-map, All-same, All-weaker}
use Rattle.std.proofs.lemmas.List.Sorted.{All-permutation, IsPermutation-append_comm, IsPermutation-sym, IsPermutation-trans}
use Rattle.std.proofs.lemmas.List.Sums.{sum_by-append}
use Rattle.rbc_model.specs.Histories.{Receipt}
use Rattle.rbc_sweep.specs.declared.jobs.Job.{Job}
use Rattle.rbc_sweep.specs.declared.jobs.Tally.{Tally}
use Rattle.rbc_sweep.specs.declared.order.Done.{Done}
use Rattle.rbc_sweep.specs.declared.outcome.Outcome.{Outcome}
use Rattle.rbc_sweep.specs.Jobs.{all_parts, numbered, tally, AreSameJobs}
use Rattle.rbc_desk.specs.Seats.{Seated}
use Rattle.rbc_sweep.specs.Outcomes.{AreFirst, AreTrainsOfFirst, IsToldToOne, granted, receipts_each, receipts_of, train_of}
use Rattle.rbc_sweep.specs.Serving.{HaveGained, HaveWorked, job_of, joined, jobs, outcome_of, receipts_in}
use Rattle.rbc_sweep.proofs.CrewLemmas.{HasWorked, HaveGained-moved, HaveGained-trans, crew_gained, crew_known, crew_long, crew_told, kept-trans, kept_either, told_before, told_behind, jobs-append, receipts_in-append}
use Rattle.rbc_sweep.proofs.WorkLemmas.{begins_still}
use Rattle.rbc_sweep.proofs.JobLemmas.{count, length-numbered}
use Rattle.rbc_sweep.proofs.Permutations.{IsPermutation-flat_map}
use Rattle.std.proofs.lemmas.List.Folds.{flat_map-map}

module _ {W : Type 0} (seat : W → Seated) (known : W → Tally) (done : W → List Done) where
  pub gathered : (had back : List Seated) (ws vs : List W) (others : List Done) (u v all : Tally) (n : ℕ)
      → AllZip (HasWorked seat known done) ws vs → map seat ws ≡ had → length had ≡ n → n < all_parts
      → u.parts ≡ all_parts → u.taken ≡ [] → v ≡ tally (u.parts - n) u.put u.taken → all ≡ fold joined v (map known vs)
      → back ≡ map seat vs → others ≡ flat_map done vs → HaveWorked u.put had back all others
  gathered had back ws vs others u v all n worked hired many few whole fresh lent joins given lists =
      let long : length vs ≡ length ws = crew_long seat known done ws vs worked in
      let wide : length ws ≡ n = sym (length-map ws seat) ∙ ap length hired ∙ many in
      let start : v ≡ tally (all_parts - n) u.put [] = lent ∙ ap (λ (k : ℕ). tally (k - n) u.put u.taken) whole ∙ ap (λ (l : List Job). tally (all_parts - n) u.put l) fresh in
      let parts : all_parts - n + length vs ≡ all_parts = omega arith in
      record {
        together = joins ∙ ap (λ (t : Tally). fold joined t (map known vs)) start
            ∙ crew_known seat known done (tally (all_parts - n) u.put []) ws vs worked
            ∙ ap (λ (k : ℕ). tally k u.put (jobs (flat_map done vs))) parts
            ∙ ap (λ (l : List Done). tally all_parts u.put (jobs l)) (sym lists);
        gained = subst (λ (l : List Done). HaveGained had back (receipts_in l)) (sym lists)
            (subst (λ (b : List Seated). HaveGained had b (receipts_in (flat_map done vs))) (sym given)
            (subst (λ (a : List Seated). HaveGained a (map seat vs) (receipts_in (flat_map done vs))) hired (crew_gained seat known done ws vs worked)));
        told = subst (λ (l : List Done). All (λ (d : Done). IsToldToOne had back d.outcome) l) (sym lists)
            (subst (λ (b : List Seated). All (λ (d : Done). IsToldToOne had b d.outcome) (flat_map done vs)) (sym given)
            (subst (λ (a : List Seated). All (λ (d : Done). IsToldToOne a (map seat vs) d.outcome) (flat_map done vs)) hired (crew_told seat known done ws vs worked)));
        as_many = ap length given ∙ length-map vs seat ∙ long ∙ wide ∙ sym many;
      }

-- what the last seat did, and what the others did, is the list
pub same_jobs : (trains : List ℕ) (fresh all : Tally) (last others : List Done) → fresh ≡ tally all_parts (numbered 0 trains) [] → all ≡ tally all_parts fresh.put (jobs others)
    → AreSameJobs all.put (all.taken ++ jobs last) → AreSameJobs (numbered 0 trains) (jobs (last ++ others))
same_jobs trains fresh all last others is worked settled = λ weight.
    let together : all ≡ tally all_parts (numbered 0 trains) (jobs others) = worked ∙ ap (λ (t : Tally). tally all_parts t.put (jobs others)) is in
    let either : sum_by weight (jobs others) + sum_by weight (jobs last) ≡ sum_by weight (jobs last) + sum_by weight (jobs others) = omega arith in
    sym (ap (λ (t : Tally). sum_by weight t.put) together) ∙ settled weight ∙ ap (λ (t : Tally). sum_by weight (t.taken ++ jobs last)) together
    ∙ sum_by-append weight (jobs others) (jobs last) ∙ either ∙ sym (sum_by-append weight (jobs last) (jobs others))
    ∙ ap (λ (l : List Job). sum_by weight l) (sym (jobs-append last others))

pub same_count : (trains : List ℕ) (done : List Done) → AreSameJobs (numbered 0 trains) (jobs done) → length done ≡ length trains
same_count trains done same =
    let one = same (λ (job : Job). 1) in
    omega (arith, count (numbered 0 trains), count (jobs done), length-numbered 0 trains, length-map done job_of)

pub outcomes_granted : (last others done : List Done) (outcomes : List Outcome) → done ≡ last ++ others → IsPermutation (map outcome_of done) outcomes
    → IsPermutation (granted outcomes) (receipts_in others ++ receipts_in last)
outcomes_granted last others done outcomes is moved =
    let got : Outcome → List Receipt = λ (o : Outcome). receipts_of o.answer in
    let same : flat_map got (map outcome_of done) ≡ receipts_in last ++ receipts_in others =
    flat_map-map got outcome_of done ∙ ap (λ (l : List Done). receipts_in l) is ∙ receipts_in-append last others in
    IsPermutation-trans (granted outcomes) (flat_map got (map outcome_of done)) (receipts_in others ++ receipts_in last)
    (IsPermutation-sym (flat_map got (map outcome_of done)) (granted outcomes) (IsPermutation-flat_map got (map outcome_of done) outcomes moved))
    (subst (λ (l : List Receipt). IsPermutation l (receipts_in others ++ receipts_in last)) (sym same) (IsPermutation-append_comm (receipts_in last) (receipts_in others)))

pub seats_gained : (had back has : List Seated) (last others done : List Done) (outcomes : List Outcome) → HaveGained had back (receipts_in others)
    → HaveGained back has (receipts_in last) → done ≡ last ++ others → IsPermutation (map outcome_of done) outcomes → HaveGained had has (granted outcomes)
seats_gained had back has last others done outcomes crew finish is moved =
    HaveGained-moved had has (receipts_in others ++ receipts_in last) (granted outcomes)
    (HaveGained-trans had back has (receipts_in others) (receipts_in last) crew finish) (outcomes_granted last others done outcomes is moved)

-- each outcome is told to one of the seats: the crew's, and then the last seat's
pub outcomes_told : (had back has : List Seated) (gained more : List Receipt) (last others done : List Done) (outcomes : List Outcome) → HaveGained had back gained → HaveGained back has more
    → All (λ (d : Done). IsToldToOne back has d.outcome) last → All (λ (d : Done). IsToldToOne had back d.outcome) others
    → done ≡ last ++ others → IsPermutation (map outcome_of done) outcomes → All (IsToldToOne had has) outcomes
outcomes_told had back has gained more last others done outcomes crew finish by_last by_others is moved =
    let P : Done → Type 0 = λ d. IsToldToOne had has d.outcome in
    All-permutation (IsToldToOne had has) (map outcome_of done) outcomes moved
    (All-map (IsToldToOne had has) outcome_of done
    (All-same P done (last ++ others) is (All-append P last others
    (All-weaker (λ (d : Done). IsToldToOne back has d.outcome) P (λ d t. told_before had back has d.outcome crew.kept t) last by_last)
    (All-weaker (λ (d : Done). IsToldToOne had back d.outcome) P (λ d t. told_behind had back has d.outcome finish.kept t) others by_others))))

-- ---- one of the seats was told which trains there are, and then they were served

pub swept_gained : {A E : Type 0} (r : Result A E) (had mid has : List Seated) (got : A → List Receipt) → HaveGained had mid [] → IfOk r (λ x. HaveGained mid has (got x))
    → IfOk r (λ x. HaveGained had has (got x))
swept_gained (Ok x) had mid has got first ok = HaveGained-trans had mid has [] (got x) first ok
swept_gained (Err e) had mid has got first ok = tt

-- no receipt is new, where there was no room for the sweep
pub swept_refused : {A E : Type 0} (r : Result A E) (had mid has : List Seated) → receipts_each mid ≡ receipts_each had → OnErr r (has ≡ mid) → OnErr r (receipts_each has ≡ receipts_each had)
swept_refused (Ok x) had mid has first err = tt
swept_refused (Err e) had mid has first err = ap receipts_each err ∙ first

-- the first seat was told which trains there are, and the outcomes are theirs
trains_still : (had mid has : List Seated) (trains : List ℕ) → AllZip AreFirst mid has → AreTrainsOfFirst had mid trains → AreTrainsOfFirst had has trains
trains_still [] mid has trains kept t = absurd t
trains_still (a ∷ had) [] has trains kept t = absurd t
trains_still (a ∷ had) (b ∷ mid) [] trains kept t = absurd kept
trains_still (a ∷ had) (b ∷ mid) (c ∷ has) trains kept t =
    let first = kept.0 in record { history = t.history; later = t.later; told = begins_still t.history b.told c.told t.told first.told; all = t.all }

pub known_ok : {T F : Type 0} (P : T → Type 0) (r : Result T F) (t : T) → r ≡ Ok t → IfOk r P → P t
known_ok P r t is ok = subst (λ q. IfOk q P) is ok

pub swept_trains : {A E : Type 0} (r : Result A E) (had mid has : List Seated) (trains : List ℕ) (outcomes : A → List Outcome) (got : A → List Receipt) → AreTrainsOfFirst had mid trains
    → IfOk r (λ x. HaveGained mid has (got x)) → IfOk r (λ x. map train_of (outcomes x) ≡ trains) → IfOk r (λ x. AreTrainsOfFirst had has (map train_of (outcomes x)))
swept_trains (Ok x) had mid has trains outcomes got first ok same = subst (AreTrainsOfFirst had has) (sym same) (trains_still had mid has trains ok.kept first)
swept_trains (Err e) had mid has trains outcomes got first ok same = tt

pub swept_kept : {A E : Type 0} (r : Result A E) (had mid has : List Seated) (got : A → List Receipt) → HaveGained had mid [] → IfOk r (λ x. HaveGained mid has (got x)) → OnErr r (has ≡ mid)
    → AllZip AreFirst had has
swept_kept r had mid has got first ok err = kept-trans had mid has first.kept (kept_either r mid has got ok err)

pub swept_told : {A E : Type 0} (r : Result A E) (had mid has : List Seated) (outcomes : A → List Outcome) → HaveGained had mid [] → IfOk r (λ x. All (IsToldToOne mid has) (outcomes x))
    → IfOk r (λ x. All (IsToldToOne had has) (outcomes x))
swept_told (Ok x) had mid has outcomes first ok =
    All-weaker (IsToldToOne mid has) (IsToldToOne had has) (λ o t. told_before had mid has o first.kept t) (outcomes x) ok
swept_told (Err e) had mid has outcomes first ok = tt
