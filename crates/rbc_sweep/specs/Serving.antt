-- What a worker has done, and what its seat gains by it.
use Rattle.std.specs.Prelude.{◌≡◌, ℕ, ◌+◌, List, ◌++◌, All, IsPermutation, Vec, flat_map, length, map}
use Rattle.std.specs.List.{AllZip}
use Rattle.crossbeam_queue.specs.Passes.{Pass, view}
use Rattle.rbc_model.specs.Histories.{Receipt}
use Rattle.rbc_desk.specs.Seats.{Seated}
use Rattle.rbc_desk.specs.Closing.{all_receipts}
use Rattle.rbc_sweep.specs.declared.jobs.Job.{Job}
use Rattle.rbc_sweep.specs.declared.jobs.Tally.{Tally}
use Rattle.rbc_sweep.specs.declared.order.Done.{Done}
use Rattle.rbc_sweep.specs.declared.outcome.Outcome.{Outcome}
use Rattle.rbc_sweep.specs.Jobs.{all_parts, tally}
use Rattle.rbc_sweep.specs.Outcomes.{AreFirst, Begins, IsTold, IsToldToOne, receipts_of}

-- the job that was done
abbrev pub job_of : Done → Job
job_of done = record { place = done.place; train = done.outcome.train }

-- the outcome for it, and its place in the list
abbrev pub outcome_of : Done → Outcome
outcome_of done = done.outcome

abbrev pub place_of : Done → ℕ
place_of done = done.place

-- the jobs that were done, in turn
abbrev pub jobs : List Done → List Job
jobs done = map job_of done

-- the receipts for what was granted
abbrev pub receipts_in : List Done → List Receipt
receipts_in done = flat_map (λ (d : Done). receipts_of d.outcome.answer) done

-- what is in all lists, one behind the other
abbrev pub all_of : {A : Type 0} → List (Vec Done A) → List Done
all_of {A} lists = flat_map (λ (list : Vec Done A). list.items) lists

-- what a pass knows
abbrev pub tally_of : Pass Job Tally → Tally
tally_of pass = view pass

-- Who had this tally and this seat has done this.
pub record HasServed (old : Tally) (had : Seated) (new : Tally) (has : Seated) (done : List Done) : Type 0 where
  pub taken : new ≡ tally old.parts old.put (old.taken ++ jobs done)
  pub gained : has.receipts ≡ had.receipts ++ receipts_in done
  pub begins : Begins had.told has.told
  pub told : All (λ (d : Done). IsTold had has d.outcome) done

-- what two passes know, put together
abbrev pub joined : Tally → Tally → Tally
joined v w = tally (v.parts + w.parts) (v.put ++ w.put) (v.taken ++ w.taken)

-- The seats keep what they had, in their order, and have gained these receipts and no others.
pub record HaveGained (had has : List Seated) (gained : List Receipt) : Type 0 where
  pub kept : AllZip AreFirst had has
  pub just : IsPermutation (all_receipts had ++ gained) (all_receipts has)

-- Workers from these seats have done this of what was put, and came back. All parts are together again.
pub record HaveWorked (put : List Job) (had back : List Seated) (all : Tally) (done : List Done) : Type 0 where
  pub together : all ≡ tally all_parts put (jobs done)
  pub gained : HaveGained had back (receipts_in done)
  pub told : All (λ (d : Done). IsToldToOne had back d.outcome) done
  pub as_many : length back ≡ length had
