-- Views: all that a train that asks is shown, and which changes of the scene it does not see.
use Rattle.std.specs.Prelude.{◌≡◌, ℕ, List, [], ◌∷◌, ◌++◌, Option, Some, None, Result, Ok, Err, refl, pos, negsuc, true, false}
use Rattle.rbc_model.specs.declared.places.Format.TheVariants.{Far}
use Rattle.rbc_model.specs.declared.refusals.Obstacle.TheVariants.{NoLink, Occupied}
use Rattle.rbc_model.specs.declared.reports.Event.{Event}
use Rattle.rbc_model.specs.declared.refusals.ViewFault.{ViewFault}
use Rattle.rbc_model.specs.Views.{View, view}
use Rattle.rbc_examples.specs.Places.{one_section, double, plus, lock, nominal, reverse}
use Rattle.rbc_examples.specs.Answers.{after}
use Rattle.rbc_examples.proofs.GrantExamples.{two, granted}

-- the first of two trains: its line goes no farther than to the second one
first_sees :
    view double (after double two) 1
    ≡ Ok
    (record {
      train = 1;
      group = record { country = 5; number = 17 };
      nominal = true;
      time = 1000;
      line = plus 0 ∷ [];
      origin = 0;
      start = 305;
      front = 305;
      to = 305;
      end = 495;
      reach = 495;
      obstacle = Occupied 2;
      speed_steps = 31;
      grade_steps = 31;
      speeds = (0, 100) ∷ [];
      grades = (0, negsuc 4) ∷ [];
    })
first_sees = refl

-- so it does not see whether S2, beyond the second train, is locked
abbrev without_s2 : List Event
without_s2 = lock 0 ∷ nominal 1 17 300 5 5 200 1000 ∷ nominal 2 17 700 5 5 200 2000 ∷ []

first_sees_no_lock : view double (after double without_s2) 1 ≡ view double (after double (without_s2 ++ lock 1 ∷ [])) 1
first_sees_no_lock = refl

-- the second train, which keeps its authority: its rear may stand in S1, and it meets its group in S2 in the reverse direction
second_sees :
    view double (after double (granted ++ reverse 2 18 50 5 5 200 3000 ∷ [])) 2
    ≡ Ok
    (record {
      train = 2;
      group = record { country = 5; number = 18 };
      nominal = false;
      time = 3000;
      line = plus 0 ∷ plus 1 ∷ [];
      origin = 1100;
      start = 945;
      front = 1155;
      to = 1500;
      end = 1500;
      reach = 1500;
      obstacle = NoLink (plus 1);
      speed_steps = 31;
      grade_steps = 31;
      speeds = (0, 120) ∷ (100, 160) ∷ [];
      grades = (0, pos 3) ∷ [];
    })
second_sees = refl

-- ---- the place of the end, and the reach beyond it, where a message can give no nearer end to the obstacle

abbrev bounds_seen : Result View ViewFault → Option (ℕ × ℕ)
bounds_seen (Ok v) = Some (v.end, v.reach)
bounds_seen (Err fault) = None

end_before_the_reach :
    bounds_seen
    (view (one_section Far 32005) (after (one_section Far 32005) (lock 0 ∷ nominal 1 17 31985 5 5 200 0 ∷ [])) 1)
    ≡ Some (32000, 32005)
end_before_the_reach = refl
