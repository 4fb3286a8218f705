-- What is refused, and what is given back.
use Rattle.std.specs.Prelude.{◌≡◌, List, [], ◌∷◌, ◌++◌, Some, None, refl, pos}
use Rattle.rbc_model.specs.declared.refusals.Refusal.TheVariants.{UnknownGroup, Unplaced, TooFar, Clash, UnknownTrain, Busy, NotLocked, NotSafe, YieldRange}
use Rattle.rbc_model.specs.declared.refusals.Obstacle.TheVariants.{NoLink, Limit}
use Rattle.rbc_model.specs.declared.reports.Event.{Event}
use Rattle.rbc_model.specs.declared.reports.Event.TheVariants.{Grant}
use Rattle.rbc_examples.specs.Places.{single, double, long, plus, lock, free, leave, nominal, give_back}
use Rattle.rbc_examples.specs.Answers.{refusal, Granted, Halted, ask, where_is}

unknown_group : refusal single [] (nominal 1 99 300 5 5 200 0) ≡ Some UnknownGroup
unknown_group = refl

unknown_train : refusal single [] (leave 1) ≡ Some (UnknownTrain 1)
unknown_train = refl

abbrev alone : List Event
alone = lock 0 ∷ nominal 1 17 300 5 5 200 1000 ∷ []

busy : refusal single alone (free 0) ≡ Some (Busy 0 1)
busy = refl

free_after_leave : refusal single (alone ++ leave 1 ∷ []) (free 0) ≡ None
free_after_leave = refl

freed_twice : refusal single (alone ++ leave 1 ∷ free 0 ∷ []) (free 0) ≡ Some (NotLocked 0)
freed_twice = refl

-- ---- far from the group

too_far : refusal long (lock 0 ∷ []) (nominal 1 17 31996 5 5 200 0) ≡ Some TooFar
too_far = refl

-- a front that is too far and on no line is told as on no line
unplaced_first : refusal single (lock 0 ∷ []) (nominal 1 17 32000 5 5 200 0) ≡ Some Unplaced
unplaced_first = refl

abbrev far : List Event
far = lock 0 ∷ nominal 1 17 31995 5 5 200 0 ∷ []

far_asks : ask long far 1 ≡ Halted (pos 32000) Limit
far_asks = refl

-- of the sections that are locked already the route's first is told
clash_first : refusal double (lock 0 ∷ lock 1 ∷ []) (lock 2) ≡ Some (Clash 1)
clash_first = refl

-- ---- grants that are not safe

beyond : refusal single alone (Grant 1 1001) ≡ Some NotSafe
beyond = refl

at_front : refusal single alone (Grant 1 305) ≡ Some NotSafe
at_front = refl

at_group : refusal single alone (Grant 1 0) ≡ Some NotSafe
at_group = refl

grant_to_none : refusal single alone (Grant 9 1000) ≡ Some (UnknownTrain 9)
grant_to_none = refl

safe : refusal single alone (Grant 1 1000) ≡ None
safe = refl

-- what was granted is not taken back by a nearer end
nearer : refusal single (alone ++ Grant 1 1000 ∷ []) (Grant 1 600) ≡ Some NotSafe
nearer = refl

-- the same end may be granted again
same_end : refusal single (alone ++ Grant 1 1000 ∷ []) (Grant 1 1000) ≡ None
same_end = refl

-- ---- giving back

abbrev granted : List Event
granted = alone ++ Grant 1 1000 ∷ []

gives_nothing : refusal single granted (give_back 1 1000) ≡ Some (YieldRange 1)
gives_nothing = refl

gives_what_it_stands_on : refusal single granted (give_back 1 304) ≡ Some (YieldRange 1)
gives_what_it_stands_on = refl

-- a train that has run on, with its front beyond its authority's start
gives_under_front : refusal single (granted ++ nominal 1 17 500 5 5 200 2000 ∷ []) (give_back 1 400) ≡ Some (YieldRange 1)
gives_under_front = refl

none_gives : refusal single granted (give_back 9 600) ≡ Some (UnknownTrain 9)
none_gives = refl

gives_some : where_is single (granted ++ give_back 1 600 ∷ []) 1 ≡ Some (95, 305, 305, 600)
gives_some = refl

gives_all : where_is single (granted ++ give_back 1 600 ∷ give_back 1 305 ∷ []) 1 ≡ Some (95, 305, 305, 305)
gives_all = refl

gives_twice : refusal single (granted ++ give_back 1 600 ∷ give_back 1 305 ∷ []) (give_back 1 305) ≡ Some (YieldRange 1)
gives_twice = refl

asks_again : ask single (granted ++ give_back 1 600 ∷ give_back 1 305 ∷ []) 1 ≡ Granted (pos 305) 1000 (NoLink (plus 0))
asks_again = refl

-- a section that was given back can be freed
abbrev gave_section_back : List Event
gave_section_back = lock 0 ∷ lock 1 ∷ nominal 1 17 300 5 5 200 1000 ∷ Grant 1 1500 ∷ give_back 1 1000 ∷ []

frees_it : refusal double gave_section_back (free 1) ≡ None
frees_it = refl

asks_without_it : ask double (gave_section_back ++ free 1 ∷ []) 1 ≡ Granted (pos 305) 1000 (NoLink (plus 0))
asks_without_it = refl
