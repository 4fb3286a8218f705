-- A continued line always ends at an obstacle, so there is always a reach.
use Rattle.std.proofs.Common.{◌≡◌, ℕ, zero, suc, Bool, true, false, [], ◌∷◌, ◌++◌, length, Option, Some, None, refl, ap, ◌∙◌, inl, inr}
use Rattle.std.specs.Prelude.{is_some, is_none, if◌then◌else◌, option_and_then}
use Rattle.std.specs.Option.{option_or, option_map_or}
use Rattle.std.proofs.lemmas.Bool.{cases_Bool, both_ways}
use Rattle.rbc_model.specs.Tracks.{Track}
use Rattle.rbc_model.specs.declared.places.Leg.{Leg}
use Rattle.rbc_model.specs.Lines.{Line, last_leg, line_length, has_section}
use Rattle.rbc_model.specs.Locks.{Locks, next, longer_ahead, lengthened_fully}
use Rattle.rbc_model.specs.Trains.{Train}
use Rattle.rbc_model.specs.Scenes.{Scene}
use Rattle.rbc_model.specs.Obstacles.{obstacle, obstacle_on, first_some, no_link, not_locked, own, occupied, held, limit, is_clear, way}
use Rattle.rbc_model.specs.Views.{way_end, reach, start_of}
use Rattle.rbc_model.specs.declared.refusals.Obstacle.{Obstacle}
use Rattle.rbc_model.proofs.ScanLemmas.{first_blocked-blocked}
use Rattle.rbc_model.proofs.EndLemmas.{IsStopped}
use Rattle.rbc_model.proofs.BasicLemmas.{same_number}

some_there : {X : Type 0} (o : Option X) → is_none o ≡ false → is_some o ≡ true
some_there None h = cc
some_there (Some x) h = refl

first_is : {X : Type 0} (a b : Option X) → is_some a ≡ true → is_none (option_or a b) ≡ false
first_is None b h = cc
first_is (Some x) b h = refl

third_is : {X : Type 0} (a b c d : Option X) → is_some c ≡ true → is_none (option_or a (option_or b (option_or c d))) ≡ false
third_is (Some x) b c d h = refl
third_is None (Some x) c d h = refl
third_is None None None d h = cc
third_is None None (Some x) d h = refl

-- where the locks lead nowhere
no_link-way_end : (track : Track) (scene : Scene) (line : Line) (leg : Leg) → last_leg line ≡ Some leg → is_none (next scene.locks leg) ≡ true → is_some (no_link track scene line (line_length track line)) ≡ true
no_link-way_end track scene line leg last nowhere = rw (last, same_number, nowhere) refl

-- where they lead on
own-way_end : (track : Track) (scene : Scene) (line : Line) (leg : Leg) → last_leg line ≡ Some leg → is_none (next scene.locks leg) ≡ false → is_some (own track scene line (line_length track line)) ≡ true
own-way_end track scene line leg last on = rw (last, same_number, some_there (next scene.locks leg) on) refl

-- so a line with a leg has an obstacle where it ends
ends_there : (track : Track) (scene : Scene) (train : Train) (line : Line) (leg : Leg) → last_leg line ≡ Some leg → is_none (obstacle_on track scene train line (line_length track line)) ≡ false
ends_there track scene train line leg last =
    let i = line_length track line in
    let later = first_some (occupied track scene train line i ∷ held track scene train line i ∷ limit track train i ∷ []) in
    elim (cases_Bool (is_none (next scene.locks leg))) [
      | inl e ↦ first_is (no_link track scene line i) (option_or (not_locked track scene line i) (option_or (own track scene line i) later)) (no_link-way_end track scene line leg last e)
      | inr e ↦ third_is (no_link track scene line i) (not_locked track scene line i) (own track scene line i) later (own-way_end track scene line leg last e)
    ]

-- ---- a line that is continued keeps having a leg

pub last_leg-push : (line : Line) (leg : Leg) → last_leg (line ++ leg ∷ []) ≡ Some leg
last_leg-push [] leg = refl
last_leg-push (a ∷ []) leg = refl
last_leg-push (a ∷ b ∷ line) leg = last_leg-push (b ∷ line) leg

pushed_if : (b : Bool) (line : Line) (leg : Leg) (longer : Line) → (if b then None else Some (line ++ leg ∷ [])) ≡ Some longer → longer ≡ line ++ leg ∷ []
pushed_if true line leg longer h = cc
pushed_if false line leg longer h = cc

pushed_by : (o : Option Leg) (line longer : Line) → option_and_then (λ leg. if has_section line leg.section then None else Some (line ++ leg ∷ [])) o ≡ Some longer → (leg : Leg) × (longer ≡ line ++ leg ∷ [])
pushed_by None line longer h = cc
pushed_by (Some leg) line longer h = (leg, pushed_if (has_section line leg.section) line leg longer h)

HasLast : Line → Type 0
HasLast line = (leg : Leg) × (last_leg line ≡ Some leg)

last_leg-longer : (locks : Locks) (line longer : Line) → longer_ahead locks line ≡ Some longer → HasLast longer
unfolding HasLast
last_leg-longer locks line longer h =
    let made = pushed_by (option_and_then (next locks) (last_leg line)) line longer h in
    (made.0, ap last_leg made.1 ∙ last_leg-push line made.0)

-- the line itself, or what it leads to
led : (locks : Locks) (line : Line) (o : Option Line) (onward : Line → Line) → longer_ahead locks line ≡ o → HasLast line → ((l : Line) → HasLast l → HasLast (onward l)) → HasLast (option_map_or onward o line)
led locks line None onward e has keeps = has
led locks line (Some l) onward e has keeps = keeps l (last_leg-longer locks line l e)

last_leg-continued : (n : ℕ) (locks : Locks) (line : Line) → HasLast line → HasLast (lengthened_fully n (longer_ahead locks) line)
last_leg-continued zero locks line has = has
last_leg-continued (suc n) locks line has =
    led locks line (longer_ahead locks line) (lengthened_fully n (longer_ahead locks)) refl has (λ l h. last_leg-continued n locks l h)

-- ---- so there is an obstacle at the reach

clear_told : (o : Option Obstacle) → o ≡ None → is_none o ≡ true
clear_told None h = refl
clear_told (Some x) h = cc

pub IsStopped-reach : (track : Track) (scene : Scene) (train : Train) (leg : Leg) → last_leg train.line ≡ Some leg → IsStopped track scene train
unfolding HasLast
IsStopped-reach track scene train leg last none =
    let has = last_leg-continued (length track.sections) scene.locks train.line (leg, last) in
    let blocked = first_blocked-blocked (is_clear track scene train) (start_of train) (way_end track scene train) (ends_there track scene train (way track scene train) has.0 has.1) in
    both_ways (is_clear track scene train (reach track scene train)) blocked (clear_told (obstacle track scene train (reach track scene train)) none)
