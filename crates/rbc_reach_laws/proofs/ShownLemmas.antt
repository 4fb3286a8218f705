-- What a train is shown up to its reach stands on the legs that were walked: later legs change nothing.
use Rattle.std.proofs.Common.{◌≡◌, ℕ, zero, suc, ◌+◌, ◌-◌, ◌<◌, ◌≤◌, [], ◌∷◌, ◌++◌, take, Option, Some, refl, ap, ap₂, sym, ◌∙◌, arith, inl, inr}
use Rattle.std.specs.Prelude.{option_map}
use Rattle.std.specs.Option.{option_flatten}
use Rattle.rbc_model.specs.declared.places.Leg.{Leg}
use Rattle.rbc_model.specs.Levels.{Levels, speed_levels, grade_levels}
use Rattle.rbc_model.specs.Profiles.{runs_over, with_run}
use Rattle.rbc_model.specs.Tracks.{Track, metres_of, metre_of_leg}
use Rattle.rbc_model.specs.Lines.{Line, at_place, line_length, legs_begun_before, metre_speed, metre_grade, met, speeds_from, grades_from, speeds, grades}
use Rattle.rbc_model.proofs.ScanLemmas.{le_or_lt}
use Rattle.rbc_model.proofs.BasicLemmas.{if_in, if_past, take_one_more}
use Rattle.rbc_model.proofs.MetreLemmas.{line_length-cons}

none_begun : (track : Track) (line : Line) → take (legs_begun_before track 0 line) line ≡ []
none_begun track [] = refl
none_begun track (leg ∷ line) = ap (λ j. take j (leg ∷ line)) (if_past (1 + legs_begun_before track (0 - metres_of track leg.section) line) 0 0 0 (omega arith))

-- the legs begun before a place
pub legs_shown : (track : Track) (a b : Line) (r : ℕ) → r ≤ line_length track a → take (legs_begun_before track r (a ++ b)) (a ++ b) ≡ take (legs_begun_before track r a) a
legs_shown track [] b r h = ap (λ j. take (legs_begun_before track j b) b) (let e : r ≡ 0 = omega arith in e) ∙ none_begun track b
legs_shown track (leg ∷ a) b r h =
    let m = metres_of track leg.section in
    let long = line_length-cons track leg a in
    elim (le_or_lt r 0) [
      | inl none ↦
          ap (λ j. take j (leg ∷ (a ++ b))) (if_past (1 + legs_begun_before track (r - m) (a ++ b)) 0 0 r none)
          ∙ sym (ap (λ j. take j (leg ∷ a)) (if_past (1 + legs_begun_before track (r - m) a) 0 0 r none))
      | inr some ↦
          ap (λ j. take j (leg ∷ (a ++ b))) (if_in (1 + legs_begun_before track (r - m) (a ++ b)) 0 0 r some)
          ∙ take_one_more leg (legs_begun_before track (r - m) (a ++ b)) (a ++ b)
          ∙ ap (λ l. leg ∷ l) (legs_shown track a b (r - m) (omega arith))
          ∙ sym (ap (λ j. take j (leg ∷ a)) (if_in (1 + legs_begun_before track (r - m) a) 0 0 r some) ∙ take_one_more leg (legs_begun_before track (r - m) a) a)
    ]

-- what is said at a place
pub at_place-append_left : {X : Type 0} (say : Leg → ℕ → X) (track : Track) (a b : Line) (i : ℕ) → i < line_length track a → at_place say track (a ++ b) i ≡ at_place say track a i
at_place-append_left say track [] b i h = absurd (omega arith)
at_place-append_left say track (leg ∷ a) b i h =
    let m = metres_of track leg.section in
    let long = line_length-cons track leg a in
    elim (le_or_lt m i) [
      | inl past ↦
          if_past (Some (say leg i)) (at_place say track (a ++ b) (i - m)) i m past
          ∙ at_place-append_left say track a b (i - m) (omega arith)
          ∙ sym (if_past (Some (say leg i)) (at_place say track a (i - m)) i m past)
      | inr here ↦
          if_in (Some (say leg i)) (at_place say track (a ++ b) (i - m)) i m here
          ∙ sym (if_in (Some (say leg i)) (at_place say track a (i - m)) i m here)
    ]

runs_same : {V : Type 0} (levels : Levels V) (n : ℕ) (f g : ℕ → Option V) → ((x : ℕ) → x < n → f x ≡ g x) → runs_over levels n f ≡ runs_over levels n g
runs_same levels zero f g h = refl
runs_same levels (suc n) f g h = ap₂ (λ runs o. with_run levels runs n o) (runs_same levels n f g (λ x l. h x (omega arith))) (h n (omega arith))

-- the speeds and gradients up to a place
pub speeds_shown : (track : Track) (a b : Line) (origin end : ℕ) → end ≤ line_length track a → speeds track (a ++ b) origin end ≡ speeds track a origin end
speeds_shown track a b origin end h =
    runs_same speed_levels (end - origin) (speeds_from track (a ++ b) origin) (speeds_from track a origin)
    (λ x l. ap option_flatten (at_place-append_left (λ leg k. metre_speed track (metre_of_leg track leg k)) track a b (origin + x) (omega arith)))

pub grades_shown : (track : Track) (a b : Line) (origin end : ℕ) → end ≤ line_length track a → grades track (a ++ b) origin end ≡ grades track a origin end
grades_shown track a b origin end h =
    runs_same grade_levels (end - origin) (grades_from track (a ++ b) origin) (grades_from track a origin)
    (λ x l. ap option_flatten (at_place-append_left (λ leg k. option_map (met leg.direction) (metre_grade track (metre_of_leg track leg k))) track a b (origin + x) (omega arith)))
