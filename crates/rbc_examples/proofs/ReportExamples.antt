-- Reports that move a train, that find it elsewhere, and that overrun.
use Rattle.std.specs.Prelude.{◌≡◌, List, [], ◌∷◌, ◌++◌, Some, None, refl, pos}
use Rattle.rbc_model.specs.declared.refusals.Refusal.TheVariants.{Offline, Unplaced, Busy, NotLocked, YieldRange}
use Rattle.rbc_model.specs.declared.refusals.Obstacle.TheVariants.{NoLink, Occupied}
use Rattle.rbc_model.specs.declared.reports.Event.{Event}
use Rattle.rbc_model.specs.declared.reports.Event.TheVariants.{Grant}
use Rattle.rbc_examples.specs.Places.{single, double, plus, lock, free, leave, give_back, nominal, reverse}
use Rattle.rbc_examples.specs.Answers.{refusal, Granted, Halted, ask, where_is}

abbrev alone_granted : List Event
alone_granted = lock 0 ∷ nominal 1 17 300 5 5 200 1000 ∷ Grant 1 1000 ∷ []

abbrev pub two_granted : List Event
two_granted = lock 0 ∷ lock 1 ∷ nominal 1 17 300 5 5 200 1000 ∷ nominal 2 17 700 5 5 200 2000 ∷ Grant 1 495 ∷ Grant 2 1500 ∷ []

-- the rear stands at the very start of the line
abbrev at_start : List Event
at_start = alone_granted ++ nominal 1 17 300 100 5 200 1100 ∷ []

at_start_place : where_is single at_start 1 ≡ Some (0, 305, 305, 1000)
at_start_place = refl

at_start_asks : ask single at_start 1 ≡ Granted (pos 305) 1000 (NoLink (plus 0))
at_start_asks = refl

-- and then behind it
behind_start : refusal single at_start (nominal 1 17 300 150 5 200 1100) ≡ Some Unplaced
behind_start = refl

-- a known train tells a leg that its line does not have
elsewhere : refusal double two_granted (nominal 1 18 0 5 5 200 9) ≡ Some Offline
elsewhere = refl

-- the line goes on into S2 by the locks, and keeps S1, where the rear may stand
abbrev moved : List Event
moved = lock 0 ∷ lock 1 ∷ nominal 1 17 300 5 5 200 1000 ∷ reverse 1 18 50 5 5 200 3000 ∷ []

moved_asks : ask double moved 1 ≡ Granted (pos 55) 400 (NoLink (plus 1))
moved_asks = refl

-- ---- overruns

-- the first train may have run past its end, into the second one
abbrev overrun : List Event
overrun = two_granted ++ nominal 1 17 750 255 5 200 5000 ∷ []

overrun_first : where_is double overrun 1 ≡ Some (295, 755, 305, 495)
overrun_first = refl

overrun_second : where_is double overrun 2 ≡ Some (495, 705, 705, 1500)
overrun_second = refl

overrun_second_asks : ask double overrun 2 ≡ Halted (pos 705) (Occupied 1)
overrun_second_asks = refl

overrun_first_asks : ask double overrun 1 ≡ Halted (pos 495) (Occupied 2)
overrun_first_asks = refl

-- of an authority that the rear has passed nothing is kept; one metre before, its last metre is
overtaken : where_is double (two_granted ++ nominal 1 17 700 5 5 200 5000 ∷ []) 1 ≡ Some (495, 705, 705, 705)
overtaken = refl

nearly_overtaken : where_is double (two_granted ++ nominal 1 17 699 5 5 200 5000 ∷ []) 1 ≡ Some (494, 704, 494, 495)
nearly_overtaken = refl

-- the second train's front lies behind its authority's start, and a third train stands between
abbrev pub drawn_back : List Event
drawn_back = two_granted ++ nominal 2 17 600 5 5 100 3000 ∷ nominal 3 17 650 5 5 20 4000 ∷ []

drawn_back_second : where_is double drawn_back 2 ≡ Some (495, 605, 705, 1500)
drawn_back_second = refl

drawn_back_third : where_is double drawn_back 3 ≡ Some (625, 655, 655, 655)
drawn_back_third = refl

drawn_back_asks : ask double drawn_back 2 ≡ Halted (pos 625) (Occupied 3)
drawn_back_asks = refl

drawn_back_asks_again : ask double (drawn_back ++ leave 3 ∷ []) 2 ≡ Granted (pos 605) 1500 (NoLink (plus 1))
drawn_back_asks_again = refl

-- a new grant begins where the train asked from
drawn_back_is_granted : where_is double (drawn_back ++ leave 3 ∷ Grant 2 1500 ∷ []) 2 ≡ Some (495, 605, 605, 1500)
drawn_back_is_granted = refl

-- it can give back all of its authority, but no metre before it
gives_back_before_its_start : refusal double drawn_back (give_back 2 650) ≡ Some (YieldRange 2)
gives_back_before_its_start = refl

gives_back_to_its_start : where_is double (drawn_back ++ give_back 2 705 ∷ []) 2 ≡ Some (495, 605, 605, 605)
gives_back_to_its_start = refl

-- ---- freeing

abbrev pub through_both : List Event
through_both = lock 0 ∷ lock 1 ∷ nominal 1 17 300 5 5 200 1000 ∷ []

through_both_asks : ask double through_both 1 ≡ Granted (pos 305) 1500 (NoLink (plus 1))
through_both_asks = refl

held_ahead : refusal double (through_both ++ Grant 1 1500 ∷ []) (free 1) ≡ Some (Busy 1 1)
held_ahead = refl

held_under : refusal double (through_both ++ Grant 1 1500 ∷ []) (free 0) ≡ Some (Busy 0 1)
held_under = refl

-- also after a report from behind them: metres that are held stay on the line
held_ahead_of_a_report : refusal double (through_both ++ Grant 1 1500 ∷ nominal 1 17 400 5 5 200 1 ∷ []) (free 1)
    ≡ Some (Busy 1 1)
held_ahead_of_a_report = refl

-- of the continued line a grant takes no more legs than it needs, so S2 can be freed
freed_ahead : ask double (through_both ++ Grant 1 1000 ∷ free 1 ∷ []) 1 ≡ Granted (pos 305) 1000 (NoLink (plus 0))
freed_ahead = refl

abbrev pub gone_ahead : List Event
gone_ahead = through_both ++ Grant 1 1500 ∷ reverse 1 18 250 5 5 200 2000 ∷ []

-- S1 is dropped from the line: the rear, told as 1,145, is now 145 metres from the start of S2
gone_ahead_place : where_is double gone_ahead 1 ≡ Some (145, 355, 145, 500)
gone_ahead_place = refl

-- S2 is locked behind S1, which its line no longer has
gone_ahead_asks : ask double gone_ahead 1 ≡ Granted (pos 45) 400 (NoLink (plus 1))
gone_ahead_asks = refl

freed_behind : refusal double gone_ahead (free 0) ≡ None
freed_behind = refl

freed_once : refusal double (gone_ahead ++ free 0 ∷ []) (free 0) ≡ Some (NotLocked 0)
freed_once = refl
