-- Trains that are to be served, in a queue from which each is taken once.
use Rattle.std.specs.Prelude.{◌≡◌, ℕ, ◌+◌, ◌^◌, List, [], ◌∷◌, ◌++◌, sum_by}
use mathlib.Core.Option.{some}
use lib.ListN.{get_elem?}
use Rattle.rbc_sweep.specs.declared.jobs.Job.{Job}
use Rattle.rbc_sweep.specs.declared.jobs.Tally.{Tally}

-- the trains with their places in the list, from this place on
abbrev pub numbered : ℕ → List ℕ → List Job
numbered place [] = []
numbered place (train ∷ trains) = record { place = place; train = train } ∷ numbered (place + 1) trains

abbrev pub tally : ℕ → List Job → List Job → Tally
tally parts put taken = record { parts = parts; put = put; taken = taken }

-- who has no part has put and taken nothing
abbrev pub IdleIsEmpty : List Tally → Type 0
IdleIsEmpty tallies = (i : ℕ) (v : Tally) → get_elem? tallies i ≡ some v → v.parts ≡ 0 → (v.put ≡ []) × (v.taken ≡ [])

-- how many parts there are: more than a list of seats can be long
abbrev pub all_parts : ℕ
all_parts = 2 ^ 64

-- The tallies have all parts. What was put is what was taken and what waits in the queue, however jobs are weighed.
abbrev pub IsBalanced : List Job → List Tally → Type 0
IsBalanced waiting tallies =
    (sum_by (λ (v : Tally). v.parts) tallies ≡ all_parts)
    × ((weight : Job → ℕ) → sum_by (λ (v : Tally). sum_by weight v.put) tallies ≡ sum_by (λ (v : Tally). sum_by weight v.taken) tallies + sum_by weight waiting)
    × IdleIsEmpty tallies

-- these jobs are those, each as often, however jobs are weighed
abbrev pub AreSameJobs : List Job → List Job → Type 0
AreSameJobs these those = (weight : Job → ℕ) → sum_by weight these ≡ sum_by weight those

-- who has all parts knows what waits in the queue
abbrev pub Knows : Tally → List Job → Type 0
Knows v waiting = v.parts ≡ all_parts → AreSameJobs v.put (v.taken ++ waiting)

-- all that was put was taken
abbrev pub IsSettled : Tally → Type 0
IsSettled v = AreSameJobs v.put v.taken
