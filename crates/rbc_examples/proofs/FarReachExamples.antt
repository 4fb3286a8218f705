-- How far a train may run from the start of a long section, in both formats: by the laws of the reach, which walk legs and not metres.
use Rattle.std.proofs.Common.{◌≡◌, ℕ, [], ◌∷◌, Some, refl, ap, ◌∙◌, true}
use Rattle.rbc_model.specs.declared.places.Format.{Format}
use Rattle.rbc_model.specs.declared.places.Format.TheVariants.{Near, Far}
use Rattle.rbc_model.specs.declared.refusals.Obstacle.{Obstacle}
use Rattle.rbc_model.specs.declared.refusals.Obstacle.TheVariants.{NoLink, Limit}
use Rattle.rbc_model.specs.Trains.{Train}
use Rattle.rbc_model.specs.Scenes.{Scene, train_numbered}
use Rattle.rbc_model.specs.Views.{stop, greatest_end}
use Rattle.rbc_reach_laws.specs.Nearest.{reach_by_legs, greatest_end_by}
use Rattle.rbc_reach_laws.proofs.ReachLemmas.{reach-by_legs}
use Rattle.rbc_reach_laws.proofs.LoopLemmas.{stop-lazily}
use Rattle.rbc_reach_laws.proofs.GreatestEndLemmas.{greatest_end-by_reach}
use Rattle.rbc_examples.specs.Places.{one_section, plus, lock, nominal}
use Rattle.rbc_examples.specs.Answers.{after}

-- the scene in which a train stands at the section's start, and the train
abbrev scene : Format → ℕ → Scene
scene format metres = after (one_section format metres) (lock 0 ∷ nominal 1 17 300 5 5 200 1000 ∷ [])

abbrev train : Train
train =
    record {
      report = record { train = 1; group = record { country = 5; number = 17 }; nominal = true; distance = 300; over = 5; under = 5; length = 200; time = 1000 };
      line = plus 0 ∷ [];
      origin = 0;
      rear = 95;
      front = 305;
      from = 305;
      to = 305;
    }

is_there : train_numbered (scene Far 32010) 1 ≡ Some train
is_there = refl

-- the end that it may be granted, and what stands behind it
record MayRun (format : Format) (metres end : ℕ) (obstacle : Obstacle) : Type 0 where
  greatest : greatest_end (one_section format metres) (scene format metres) train ≡ Some end
  stopped : stop (one_section format metres) (scene format metres) train ≡ obstacle

-- both are found by legs
may_run : (format : Format) (metres end : ℕ) (obstacle : Obstacle)
    → greatest_end_by format train (reach_by_legs (one_section format metres) (scene format metres) train) ≡ Some end
    → stop (one_section format metres) (scene format metres) train ≡ obstacle
    → MayRun format metres end obstacle
may_run format metres end obstacle e o = record {
  greatest = greatest_end-by_reach (one_section format metres) (scene format metres) train
      ∙ ap (greatest_end_by format train) (reach-by_legs (one_section format metres) (scene format metres) train) ∙ e;
  stopped = o;
}

runs_32009 : MayRun Far 32009 32000 (NoLink (plus 0))
runs_32009 = may_run Far 32009 32000 (NoLink (plus 0)) refl (stop-lazily (one_section Far 32009) (scene Far 32009) train)

runs_32010 : MayRun Far 32010 32010 (NoLink (plus 0))
runs_32010 = may_run Far 32010 32010 (NoLink (plus 0)) refl (stop-lazily (one_section Far 32010) (scene Far 32010) train)

runs_32015 : MayRun Far 32015 32010 (NoLink (plus 0))
runs_32015 = may_run Far 32015 32010 (NoLink (plus 0)) refl (stop-lazily (one_section Far 32015) (scene Far 32015) train)

runs_90000 : MayRun Far 90000 80000 Limit
runs_90000 = may_run Far 90000 80000 Limit refl (stop-lazily (one_section Far 90000) (scene Far 90000) train)

runs_near : MayRun Near 32009 32000 Limit
runs_near = may_run Near 32009 32000 Limit refl (stop-lazily (one_section Near 32009) (scene Near 32009) train)
