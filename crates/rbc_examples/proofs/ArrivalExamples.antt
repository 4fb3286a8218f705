-- Trains stand in the order of their arrival: of several on one metre the first to arrive is named.
use Rattle.std.specs.Prelude.{◌≡◌, List, [], ◌∷◌, ◌++◌, Some, refl, pos}
use Rattle.rbc_model.specs.declared.refusals.Refusal.TheVariants.{Busy}
use Rattle.rbc_model.specs.declared.refusals.Obstacle.TheVariants.{Occupied}
use Rattle.rbc_model.specs.declared.reports.Event.{Event}
use Rattle.rbc_examples.specs.Places.{single, lock, free, leave, nominal}
use Rattle.rbc_examples.specs.Answers.{refusal, Granted, ask}

-- trains 9 and 2 may stand on the same metres
abbrev two_ahead : List Event
two_ahead = lock 0 ∷ nominal 9 17 600 5 5 100 0 ∷ nominal 2 17 600 5 5 100 0 ∷ []

-- train 1 comes up behind them
abbrev one_behind : List Event
one_behind = two_ahead ++ nominal 1 17 300 5 5 200 0 ∷ []

names_the_first : ask single one_behind 1 ≡ Granted (pos 305) 495 (Occupied 9)
names_the_first = refl

-- a further report leaves a train where it stands in this order
reports_again : ask single (one_behind ++ nominal 9 17 600 5 5 100 0 ∷ []) 1 ≡ Granted (pos 305) 495 (Occupied 9)
reports_again = refl

-- one that left and comes again arrives last
comes_again : ask single (one_behind ++ leave 9 ∷ nominal 9 17 600 5 5 100 0 ∷ []) 1
    ≡ Granted (pos 305) 495 (Occupied 2)
comes_again = refl

busy_with_the_first : refusal single two_ahead (free 0) ≡ Some (Busy 0 9)
busy_with_the_first = refl
