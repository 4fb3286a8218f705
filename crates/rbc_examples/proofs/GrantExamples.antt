-- What trains that ask are answered.
use Rattle.std.specs.Prelude.{◌≡◌, None, List, [], ◌∷◌, ◌++◌, Some, refl, pos, negsuc, true}
use Rattle.rbc_model.specs.declared.places.Direction.TheVariants.{Rising}
use Rattle.rbc_model.specs.declared.places.Format.TheVariants.{Near}
use Rattle.rbc_model.specs.Trains.{Train}
use Rattle.rbc_model.specs.Scenes.{Scene}
use Rattle.rbc_model.specs.Obstacles.{obstacle}
use Rattle.rbc_model.specs.Views.{view}
use Rattle.rbc_model.specs.declared.refusals.Obstacle.TheVariants.{NoLink, NotLocked, Own, Occupied, Held}
use Rattle.rbc_model.specs.declared.reports.Event.{Event}
use Rattle.rbc_model.specs.declared.reports.Event.TheVariants.{Grant}
use Rattle.rbc_examples.specs.Places.{one_section, single, double, balloon, plus, minus, lock, report_from, nominal, reverse}
use Rattle.rbc_examples.specs.Answers.{after, Granted, Halted, ask, where_is, shown}

-- one train on a locked section may run to its end
abbrev alone : List Event
alone = lock 0 ∷ nominal 1 17 300 5 5 200 1000 ∷ []

alone_place : where_is single alone 1 ≡ Some (95, 305, 305, 305)
alone_place = refl

alone_asks : ask single alone 1 ≡ Granted (pos 305) 1000 (NoLink (plus 0))
alone_asks = refl

alone_is_shown : shown (view single (after single alone) 1) ≡ Some ((0, 100) ∷ [], (0, negsuc 4) ∷ [], 1000)
alone_is_shown = refl

-- without the lock it may not run
unlocked_asks : ask single (nominal 1 17 300 5 5 200 1000 ∷ []) 1 ≡ Halted (pos 305) (NotLocked 0)
unlocked_asks = refl

-- nor where the section is locked for the other direction
locked_the_other_way_asks : ask double (lock 2 ∷ nominal 1 17 300 5 5 200 0 ∷ []) 1 ≡ Halted (pos 305) (NotLocked 0)
locked_the_other_way_asks = refl

-- where the line ends as far from the group as an authority may, its end is told
line_ends_at_the_limit : ask (one_section Near 32000) (lock 0 ∷ nominal 1 17 31995 5 5 200 0 ∷ []) 1
    ≡ Halted (pos 32000) (NoLink (plus 0))
line_ends_at_the_limit = refl

-- ---- two trains, one behind the other

abbrev pub two : List Event
two = lock 0 ∷ lock 1 ∷ nominal 1 17 300 5 5 200 1000 ∷ nominal 2 17 700 5 5 200 2000 ∷ []

two_first_asks : ask double two 1 ≡ Granted (pos 305) 495 (Occupied 2)
two_first_asks = refl

-- both with their grants
abbrev pub granted : List Event
granted = two ++ Grant 1 495 ∷ Grant 2 1500 ∷ []

two_second_asks : ask double (two ++ Grant 1 495 ∷ []) 2 ≡ Granted (pos 705) 1500 (NoLink (plus 1))
two_second_asks = refl

two_second_is_shown : shown (view double (after double (two ++ Grant 1 495 ∷ [])) 2) ≡ Some ((0, 100) ∷ (1000, 120) ∷ (1200, 160) ∷ [], (0, negsuc 4) ∷ (1000, pos 3) ∷ [], 1500)
two_second_is_shown = refl

two_places : where_is double granted 2 ≡ Some (495, 705, 705, 1500)
two_places = refl

-- the second train runs on into S2 and reports from its group, which its line meets in the reverse direction
abbrev run_on : List Event
run_on = granted ++ reverse 2 18 50 5 5 200 3000 ∷ []

run_on_first_asks : ask double run_on 1 ≡ Granted (pos 305) 945 (Occupied 2)
run_on_first_asks = refl

run_on_second_asks : ask double (run_on ++ Grant 1 945 ∷ []) 2 ≡ Granted (negsuc 154) 400 (NoLink (plus 1))
run_on_second_asks = refl

run_on_second_is_shown : shown (view double (after double run_on) 2) ≡ Some ((0, 120) ∷ (100, 160) ∷ [], (0, pos 3) ∷ [], 400)
run_on_second_is_shown = refl

-- a third train stands in the second one's authority
abbrev third : List Event
third = granted ++ nominal 3 17 1200 5 5 100 4000 ∷ []

third_asks : ask double third 3 ≡ Halted (pos 1205) (Held 2)
third_asks = refl

third_second_asks : ask double third 2 ≡ Halted (pos 1095) (Occupied 3)
third_second_asks = refl

-- a fourth is in the way of the second one's authority too, but the third one stands there: that is told first
fourth_asks : ask double (third ++ nominal 4 17 1095 5 5 100 0 ∷ []) 4 ≡ Halted (pos 1100) (Occupied 3)
fourth_asks = refl

-- against the offsets of two sections
abbrev backwards : List Event
backwards = lock 2 ∷ nominal 4 18 0 5 5 200 0 ∷ []

backwards_asks : ask double backwards 4 ≡ Granted (pos 5) 1100 (NoLink (minus 0))
backwards_asks = refl

backwards_is_shown : shown (view double (after double backwards) 4) ≡ Some ((0, 120) ∷ (100, 100) ∷ [], (0, negsuc 2) ∷ (100, pos 5) ∷ [], 1100)
backwards_is_shown = refl

-- round the balloon loop, up to where the line meets itself
abbrev pub loop : List Event
loop = lock 0 ∷ report_from 7 true 1 1 495 5 5 200 0 ∷ []

loop_place : where_is balloon loop 1 ≡ Some (290, 500, 500, 500)
loop_place = refl

loop_asks : ask balloon loop 1 ≡ Granted (pos 500) 1300 Own
loop_asks = refl

loop_is_shown : shown (view balloon (after balloon loop) 1) ≡ Some ((0, 100) ∷ (500, 60) ∷ [], (0, pos 0) ∷ [], 1300)
loop_is_shown = refl

-- ---- a section that is locked behind another leg, or behind none

-- S2 is locked, but not behind S1, from which the line enters it
abbrev apart : Scene
apart =
    record {
      locks = Some (record { direction = Rising; route = 0; before = None }) ∷ Some (record { direction = Rising; route = 1; before = None }) ∷ None ∷ [];
      trains = [];
    }

abbrev across : Train
across =
    record {
      report = record { train = 1; group = record { country = 5; number = 17 }; nominal = true; distance = 300; over = 5; under = 5; length = 200; time = 0 };
      line = plus 0 ∷ plus 1 ∷ [];
      origin = 0;
      rear = 95;
      front = 305;
      from = 305;
      to = 305;
    }

clear_before : obstacle double apart across 999 ≡ None
clear_before = refl

not_locked_behind : obstacle double apart across 1000 ≡ Some (NotLocked 1)
not_locked_behind = refl
