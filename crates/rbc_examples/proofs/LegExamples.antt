-- Which legs a report leaves on its train's line: those added behind and ahead, and those dropped.
use Rattle.std.specs.Prelude.{◌≡◌, List, [], ◌∷◌, ◌++◌, Some, None, refl, pos, false}
use Rattle.rbc_model.specs.declared.places.Direction.TheVariants.{Rising}
use Rattle.rbc_model.specs.Tracks.{Track}
use Rattle.rbc_model.specs.declared.refusals.Refusal.TheVariants.{Offline, Unplaced}
use Rattle.rbc_model.specs.declared.refusals.Obstacle.TheVariants.{NoLink}
use Rattle.rbc_model.specs.declared.reports.Event.{Event}
use Rattle.rbc_model.specs.declared.reports.Event.TheVariants.{Grant}
use Rattle.rbc_examples.specs.Places.{single, double, balloon, plus, lock, free, report_from, nominal, reverse}
use Rattle.rbc_examples.specs.Answers.{refusal, Granted, ask, where_is}
use Rattle.rbc_examples.proofs.GrantExamples.{loop}
use Rattle.rbc_examples.proofs.ReportExamples.{through_both}

-- ---- legs added behind

-- a new train in S2 whose rear may stand in S1, behind which S2 is locked
abbrev across : List Event
across = lock 0 ∷ lock 1 ∷ reverse 1 18 50 5 5 200 0 ∷ []

across_place : where_is double across 1 ≡ Some (945, 1155, 1155, 1155)
across_place = refl

-- where S2 is not locked, nothing leads back
not_locked_back : refusal double (lock 0 ∷ []) (reverse 1 18 50 5 5 200 0) ≡ Some Unplaced
not_locked_back = refl

-- back from A through the loop L, which is as far as the line goes: A would stand on it twice
round_place : where_is balloon (lock 0 ∷ report_from 7 false 1 1 0 0 0 1300 0 ∷ []) 1 ≡ Some (0, 1300, 1300, 1300)
round_place = refl

round_too_far : refusal balloon (lock 0 ∷ []) (report_from 7 false 1 1 0 0 0 1301 0) ≡ Some Unplaced
round_too_far = refl

-- S1 is added behind the train, so its authority's places are counted from 1,000 metres farther back
abbrev grown : List Event
grown = lock 0 ∷ lock 1 ∷ reverse 1 18 250 5 5 200 1000 ∷ Grant 1 400 ∷ reverse 1 18 250 300 5 200 2000 ∷ []

grown_place : where_is double grown 1 ≡ Some (850, 1355, 1355, 1500)
grown_place = refl

-- ---- legs added ahead

-- the front may be the end of the last leg, but lie no metre beyond it
front_at_the_end : where_is single (lock 0 ∷ nominal 1 17 995 5 5 200 0 ∷ []) 1 ≡ Some (790, 1000, 1000, 1000)
front_at_the_end = refl

front_beyond_the_end : refusal single (lock 0 ∷ []) (nominal 1 17 996 5 5 200 0) ≡ Some Unplaced
front_beyond_the_end = refl

-- the loop leads back onto A, but a line has A once
twice_ahead : refusal balloon loop (report_from 7 false 1 1 0 0 0 1 0) ≡ Some Offline
twice_ahead = refl

-- ---- legs dropped

-- S1 is dropped once the rear has left it: here it stands on the first metre of S2
rear_on_first_metre : where_is double (through_both ++ Grant 1 1500 ∷ reverse 1 18 105 5 5 200 2000 ∷ []) 1
    ≡ Some (0, 210, 0, 500)
rear_on_first_metre = refl

-- double with a group at the start of S2 too
abbrev seam : Track
seam =
    record double {
      groups =
          double.groups ++ record { name = record { country = 5; number = 19 }; section = 1; offset = 0; nominal = Rising } ∷ [];
    }

-- a train before this group, whose line has S2 for the group's sake alone, so that S2 can be freed
abbrev before_s2 : List Event
before_s2 = lock 0 ∷ lock 1 ∷ nominal 1 19 0 0 0 1 0 ∷ free 1 ∷ []

-- the leg with the rear stays, on its last metre and on its first, though nothing leads back to it any more
rear_on_last_metre : refusal seam before_s2 (nominal 1 19 0 0 0 1 0) ≡ None
rear_on_last_metre = refl

rear_on_first_metre_of_all : where_is seam (before_s2 ++ nominal 1 19 0 0 0 1000 0 ∷ []) 1 ≡ Some (0, 1000, 1000, 1000)
rear_on_first_metre_of_all = refl

-- so does the leg told, though it lies behind the rear
leg_told_behind : where_is double (through_both ++ Grant 1 1500 ∷ nominal 1 17 1300 5 5 200 1 ∷ []) 1
    ≡ Some (1095, 1305, 1095, 1500)
leg_told_behind = refl

-- S2 was needed for the front, and is dropped when a later report puts the front back into S1: then it can be freed
abbrev put_back : List Event
put_back = lock 0 ∷ lock 1 ∷ nominal 1 17 1000 5 5 200 0 ∷ nominal 1 17 600 5 5 200 0 ∷ free 1 ∷ []

put_back_asks : ask double put_back 1 ≡ Granted (pos 605) 1000 (NoLink (plus 0))
put_back_asks = refl
