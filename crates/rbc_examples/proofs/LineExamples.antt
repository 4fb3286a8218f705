-- On a line against the offsets: places, speeds and gradients; and what follows what in the locks.
use Rattle.std.specs.Prelude.{None, ◌≡◌, [], ◌∷◌, ◌++◌, Some, refl, pos, negsuc}
use Rattle.rbc_model.specs.declared.places.Direction.TheVariants.{Falling}
use Rattle.rbc_model.specs.Tracks.{Track, group_named}
use Rattle.rbc_model.specs.declared.refusals.Refusal.TheVariants.{Clash, LinkTaken, NotLocked}
use Rattle.rbc_model.specs.Lines.{speed_at, grade_at, Line, speeds, grades, place_of, metre_at}
use Rattle.rbc_model.specs.Locks.{next, prev}
use Rattle.std.specs.Option.{option_and_then}
use Rattle.rbc_examples.specs.Places.{double, plus, minus, lock, free}
use Rattle.rbc_examples.specs.Answers.{after, refusal}

-- from the end of S2 to the start of S1
abbrev back : Line
back = minus 1 ∷ minus 0 ∷ []

group_place : option_and_then (λ group. place_of double back group Falling) (group_named double (record { country = 5; number = 18 })) ≡ Some 400
group_place = refl

speeds_back : speeds double back 400 1500 ≡ (0, 120) ∷ (100, 100) ∷ []
speeds_back = refl

grades_back : grades double back 400 1500 ≡ (0, negsuc 2) ∷ (100, pos 5) ∷ []
grades_back = refl

last_speed_back : speed_at double back 1499 ≡ Some 100
last_speed_back = refl

no_speed_past_the_end : speed_at double back 1500 ≡ None
no_speed_past_the_end = refl

climb_back : grade_at double back 600 ≡ Some (pos 5)
climb_back = refl

first_metre_back : metre_at double back 0 ≡ Some (record { section = 1; offset = 499 })
first_metre_back = refl

-- double with a link from S1+ to S3+ too, behind which a further route is entered
abbrev forked : Track
forked =
    record double {
      links = double.links ++ record { from = plus 0; to = plus 2 } ∷ [];
      routes = double.routes ++ record { name = []; after = Some (plus 0); legs = plus 2 ∷ [] } ∷ [];
    }

link_taken : refusal forked (lock 1 ∷ []) (lock 4) ≡ Some (LinkTaken (plus 0))
link_taken = refl

clash_with_itself : refusal forked (lock 1 ∷ []) (lock 1) ≡ Some (Clash 1)
clash_with_itself = refl

free_unlocked : refusal forked (lock 1 ∷ []) (free 2) ≡ Some (NotLocked 2)
free_unlocked = refl

next_leg : next (after double (lock 0 ∷ lock 1 ∷ [])).locks (plus 0) ≡ Some (plus 1)
next_leg = refl

prev_leg : prev (after double (lock 0 ∷ lock 1 ∷ [])).locks (plus 1) ≡ Some (plus 0)
prev_leg = refl

-- a row of the other direction has no leg before
no_prev_leg : prev (after double (lock 2 ∷ [])).locks (plus 0) ≡ None
no_prev_leg = refl
