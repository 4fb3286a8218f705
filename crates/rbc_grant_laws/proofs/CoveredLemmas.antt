-- Each metre of a line has a speed and a gradient in range, and a profile is best for each track that agrees below the end.
use Rattle.std.proofs.Common.{◌≡◌, ℕ, zero, suc, ◌+◌, ◌-◌, ◌<◌, ◌≤◌, Bool, true, false, cond, List, [], ◌∷◌, Option, Some, None, ℤ, pos, negsuc, refl, ap, ap₂, sym, ◌∙◌, subst, arith, inl, inr, nat_le, int_le}
use Rattle.std.specs.Prelude.{◌==◌, option_map, option_and_then, slice_get, neg_ℤ}
use Rattle.std.specs.Option.{option_or, option_flatten, option_map_or}
use Rattle.std.specs.List.{AllByRecursion}
use Rattle.std.proofs.lemmas.Bool.{leb-true, le-leb, eqb-true, and_from}
use Rattle.std.proofs.lemmas.List.Elements.{recursion_from_All}
use Rattle.rbc_model.specs.declared.places.Metre.{Metre}
use Rattle.rbc_model.specs.declared.places.Leg.{Leg}
use Rattle.rbc_model.specs.declared.places.Direction.{Direction}
use Rattle.rbc_model.specs.declared.places.Direction.TheVariants.{Rising, Falling}
use Rattle.rbc_model.specs.Levels.{Levels, IsInRange, speed_levels, grade_levels}
use Rattle.rbc_model.specs.Profiles.{IsTrackFunction, value_at, starts_of, rises_from_zero, rises_above, is_within, price_at, loss, Fits, IsBestProfile}
use Rattle.rbc_model.specs.Tracks.{Track, Section, IsMetreOf, metres_of, metre_of_leg}
use Rattle.rbc_model.specs.SoundTracks.{IsInForm}
use Rattle.rbc_model.specs.Lines.{Line, at_place, line_length, metre_speed, metre_grade, met, speed_at, grade_at, speeds_from, grades_from}
use Rattle.rbc_model.proofs.RunLemmas.{IsCovered}
use Rattle.rbc_model.proofs.ScanLemmas.{le_or_lt}
use Rattle.rbc_model.proofs.LevelLemmas.{speed_lawful, grade_lawful}
use Rattle.std.specs.Cmp.{first_so, second_so}
use Rattle.std.proofs.lemmas.Option.{same_Some}
use Rattle.rbc_model.proofs.BasicLemmas.{if_in, if_past}
use Rattle.rbc_model.proofs.MetreLemmas.{line_length-cons, metre_of_leg-of_track}
use Rattle.rbc_model.proofs.StepListLemmas.{value_in_range}

-- ---- a track's value at a metre

module _ {V : Type 0} (levels : Levels V) where
  HasValue : Option V → Type 0
  HasValue o = (v : V) × (o ≡ Some v) × IsInRange levels v

  some_or : (o : Option V) (b : Bool) (here : V) → b ≡ true → (v : V) × (option_or o (cond b (Some here) None) ≡ Some v)
  some_or (Some w) b here h = (w, refl)
  some_or None true here h = (here, refl)
  some_or None false here h = cc

  value_there : (steps : List (ℕ × V)) (x : ℕ) → rises_from_zero (starts_of steps) ≡ true → (v : V) × (value_at steps x ≡ Some v)
  value_there [] x h = cc
  value_there (s ∷ steps) x h =
      let zero_first = eqb-true s.0 0 (first_so (s.0 == 0) (rises_above 0 (starts_of steps)) h) in
      some_or (value_at steps x) (nat_le s.0 x) s.1 (le-leb s.0 x (omega arith))

  track_value : (n : ℕ) (runs : List (ℕ × V)) (x : ℕ) → IsTrackFunction levels n runs → HasValue (value_at runs x)
  unfolding HasValue
  track_value n runs x t =
      let s = t.starts in
      let v = value_there runs x s.rising in
      (v.0, v.1, value_in_range levels runs x v.0 t.values v.1)

each_at : {X : Type 0} (P : X → Type 0) (xs : List X) (k : ℕ) (x : X) → AllByRecursion P xs → slice_get xs k ≡ Some x → P x
each_at P [] k x h e = cc
each_at P (y ∷ xs) zero x h e = subst P (same_Some y x e) h.0
each_at P (y ∷ xs) (suc k) x h e = each_at P xs k x h.1 e

-- the section of a metre
section_there : (track : Track) (metre : Metre) → IsMetreOf track metre → (s : Section) × (slice_get track.sections metre.section ≡ Some s)
section_there track metre h = by_section (slice_get track.sections metre.section) refl
  where
    by_section : (o : Option Section) → slice_get track.sections metre.section ≡ o → (s : Section) × (o ≡ Some s)
    by_section None e = absurd (let none : metres_of track metre.section ≡ 0 = ap (λ o. option_map_or (λ (s : Section). s.metres) o 0) e in omega arith)
    by_section (Some s) e = (s, refl)

speed_there : (track : Track) (metre : Metre) → IsInForm track → IsMetreOf track metre → HasValue speed_levels (metre_speed track metre)
unfolding HasValue
speed_there track metre form h =
    let s = section_there track metre h in
    let t = each_at (λ (section : Section). IsTrackFunction speed_levels section.metres section.speeds) track.sections metre.section s.0 (recursion_from_All (λ (section : Section). IsTrackFunction speed_levels section.metres section.speeds) track.sections form.speeds) s.1 in
    let v = track_value speed_levels s.0.metres s.0.speeds metre.offset t in
    (v.0, ap (option_and_then (λ (section : Section). value_at section.speeds metre.offset)) s.1 ∙ v.1, v.2)

grade_there : (track : Track) (metre : Metre) → IsInForm track → IsMetreOf track metre → HasValue grade_levels (metre_grade track metre)
unfolding HasValue
grade_there track metre form h =
    let s = section_there track metre h in
    let t = each_at (λ (section : Section). IsTrackFunction grade_levels section.metres section.grades) track.sections metre.section s.0 (recursion_from_All (λ (section : Section). IsTrackFunction grade_levels section.metres section.grades) track.sections form.grades) s.1 in
    let v = track_value grade_levels s.0.metres s.0.grades metre.offset t in
    (v.0, ap (option_and_then (λ (section : Section). value_at section.grades metre.offset)) s.1 ∙ v.1, v.2)

-- a gradient that is negated stays in range
negated_in_range : (g : ℤ) → IsInRange grade_levels g → IsInRange grade_levels (neg_ℤ g)
negated_in_range (pos zero) h = refl
negated_in_range (pos (suc n)) h = and_from (nat_le n 253) true (le-leb n 253 (let up = leb-true (suc n) 254 (second_so (int_le (negsuc 253) (pos (suc n))) (int_le (pos (suc n)) (pos 254)) h) in omega arith)) refl
negated_in_range (negsuc n) h = and_from true (nat_le (suc n) 254) refl (le-leb (suc n) 254 (let down = leb-true n 253 (first_so (int_le (negsuc 253) (negsuc n)) (int_le (negsuc n) (pos 254)) h) in omega arith))

met_in_range : (d : Direction) (g : ℤ) → IsInRange grade_levels g → IsInRange grade_levels (met d g)
met_in_range Rising g h = h
met_in_range Falling g h = negated_in_range g h

-- ---- and at a place

-- what is said at a place of the line is said of a leg, and of a number of metres that the leg has
at_place-some : {X : Type 0} (say : Leg → ℕ → X) (track : Track) (line : Line) (i : ℕ) → i < line_length track line → (leg : Leg) × (k : ℕ) × (at_place say track line i ≡ Some (say leg k)) × (k < metres_of track leg.section)
at_place-some say track [] i h = absurd (omega arith)
at_place-some say track (leg ∷ line) i h =
    let m = metres_of track leg.section in
    elim (le_or_lt m i) [
      | inl past ↦
          let rest = at_place-some say track line (i - m) (omega (arith, line_length-cons track leg line)) in
          (rest.0, rest.1, if_past (Some (say leg i)) (at_place say track line (i - m)) i m past ∙ rest.2, rest.3)
      | inr here ↦ (leg, i, if_in (Some (say leg i)) (at_place say track line (i - m)) i m here, here)
    ]

speed_at-some : (track : Track) (line : Line) (i : ℕ) → IsInForm track → i < line_length track line → HasValue speed_levels (speed_at track line i)
unfolding HasValue
speed_at-some track line i form h =
    let s = at_place-some (λ leg k. metre_speed track (metre_of_leg track leg k)) track line i h in
    let v = speed_there track (metre_of_leg track s.0 s.1) form (metre_of_leg-of_track track s.0 s.1 s.3) in
    (v.0, ap option_flatten s.2 ∙ v.1, v.2)

grade_at-some : (track : Track) (line : Line) (i : ℕ) → IsInForm track → i < line_length track line → HasValue grade_levels (grade_at track line i)
unfolding HasValue
grade_at-some track line i form h =
    let s = at_place-some (λ leg k. option_map (met leg.direction) (metre_grade track (metre_of_leg track leg k))) track line i h in
    let v = grade_there track (metre_of_leg track s.0 s.1) form (metre_of_leg-of_track track s.0 s.1 s.3) in
    (met s.0.direction v.0, ap option_flatten s.2 ∙ ap (option_map (met s.0.direction)) v.1, met_in_range s.0.direction v.0 v.2)

-- from a place on, as far as the line goes
pub speeds_are_covered : (track : Track) (line : Line) (a n : ℕ) → IsInForm track → a + n ≤ line_length track line → IsCovered speed_levels speed_lawful n (speeds_from track line a)
unfolding HasValue
speeds_are_covered track line a n form h x low = speed_at-some track line (a + x) form (omega arith)

pub grades_are_covered : (track : Track) (line : Line) (a n : ℕ) → IsInForm track → a + n ≤ line_length track line → IsCovered grade_levels grade_lawful n (grades_from track line a)
unfolding HasValue
grades_are_covered track line a n form h x low = grade_at-some track line (a + x) form (omega arith)

-- ---- tracks that agree below the end

module _ {V : Type 0} (levels : Levels V) (unit limit n : ℕ) (f g : ℕ → Option V) where
  fits_agree : ((x : ℕ) → x < n → f x ≡ g x) → (steps : List (ℕ × V)) → Fits levels unit limit n f steps → Fits levels unit limit n g steps
  fits_agree same steps fits = record { profile = fits.profile; below = λ x low. subst (λ o. is_within levels o (value_at steps x) ≡ true) (same x low) (fits.below x low) }

loss_agree : {V : Type 0} (levels : Levels V) (n : ℕ) (f g : ℕ → Option V) (steps : List (ℕ × V)) → ((x : ℕ) → x < n → f x ≡ g x) → loss levels n f steps ≡ loss levels n g steps
loss_agree levels zero f g steps same = refl
loss_agree levels (suc n) f g steps same =
    ap₂ (λ a b. a + b) (loss_agree levels n f g steps (λ x low. same x (omega arith))) (ap (λ o. price_at levels o (value_at steps n)) (same n (omega arith)))

pub IsBestProfile-agree : {V : Type 0} (levels : Levels V) (unit limit n : ℕ) (f g : ℕ → Option V) (steps : List (ℕ × V)) → ((x : ℕ) → x < n → f x ≡ g x) → IsBestProfile levels unit limit n f steps → IsBestProfile levels unit limit n g steps
IsBestProfile-agree levels unit limit n f g steps same best = record {
  fits = fits_agree levels unit limit n f g same steps best.fits;
  least = λ other fits.
      let l = best.least other (fits_agree levels unit limit n g f (λ x low. sym (same x low)) other fits) in
      let a = loss_agree levels n f g steps same in
      let b = loss_agree levels n f g other same in
      omega arith;
}
