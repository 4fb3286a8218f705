-- Laws on lines: what stands at a place of a line from which legs were dropped, or to which legs were added.
use Rattle.std.proofs.Common.{◌≡◌, ℕ, ◌+◌, ◌-◌, ◌<◌, ◌≤◌, [], ◌∷◌, ◌++◌, Some, refl, ap, sym, ◌∙◌, arith, inl, inr}
use Rattle.std.specs.Prelude.{option_map}
use Rattle.std.proofs.lemmas.List.Sums.{sum_by-append}
use Rattle.rbc_model.specs.declared.places.Leg.{Leg}
use Rattle.rbc_model.specs.Tracks.{Track, metres_of, metre_of_leg}
use Rattle.rbc_model.specs.Lines.{Line, at_place, line_length, leg_at, metre_at}
use Rattle.rbc_model.proofs.ScanLemmas.{le_or_lt}
use Rattle.rbc_scene_laws.specs.Good.{spot}
use Rattle.rbc_model.proofs.BasicLemmas.{if_in, if_past}
use Rattle.rbc_model.proofs.MetreLemmas.{line_length-cons}

module _ {X : Type 0} (say : Leg → ℕ → X) (track : Track) where
  -- legs added behind a line change nothing on it
  pub at_place-append_left : (a b : Line) (i : ℕ) → i < line_length track a → at_place say track (a ++ b) i ≡ at_place say track a i
  at_place-append_left [] b i h = absurd (omega arith)
  at_place-append_left (leg ∷ a) b i h =
      let m = metres_of track leg.section in
      elim (le_or_lt m i) [
        | inl past ↦
            if_past (Some (say leg i)) (at_place say track (a ++ b) (i - m)) i m past
            ∙ at_place-append_left a b (i - m) (omega (arith, line_length-cons track leg a))
            ∙ sym (if_past (Some (say leg i)) (at_place say track a (i - m)) i m past)
        | inr here ↦
            if_in (Some (say leg i)) (at_place say track (a ++ b) (i - m)) i m here
            ∙ sym (if_in (Some (say leg i)) (at_place say track a (i - m)) i m here)
      ]

  -- legs added in front shift it
  pub at_place-append_right : (a b : Line) (i : ℕ) → line_length track a ≤ i → at_place say track (a ++ b) i ≡ at_place say track b (i - line_length track a)
  at_place-append_right [] b i h = ap (at_place say track b) (omega arith)
  at_place-append_right (leg ∷ a) b i h =
      let m = metres_of track leg.section in
      if_past (Some (say leg i)) (at_place say track (a ++ b) (i - m)) i m (omega (arith, line_length-cons track leg a))
      ∙ at_place-append_right a b (i - m) (omega (arith, line_length-cons track leg a))
      ∙ ap (at_place say track b) (omega (arith, line_length-cons track leg a))

  -- there is something just on the line
  pub at_place-on : (line : Line) (i : ℕ) (x : X) → at_place say track line i ≡ Some x → i < line_length track line
  at_place-on [] i x h = cc
  at_place-on (leg ∷ line) i x h =
      let m = metres_of track leg.section in
      elim (le_or_lt m i) [
        | inl past ↦ let ih = at_place-on line (i - m) x (sym (if_past (Some (say leg i)) (at_place say track line (i - m)) i m past) ∙ h) in omega (arith, line_length-cons track leg line)
        | inr here ↦ omega (arith, line_length-cons track leg line)
      ]

  -- all that is said at a place is said of its spot
  pub at_place-spot : (line : Line) (i : ℕ) → at_place say track line i ≡ option_map (λ (p : Leg × ℕ). say p.0 p.1) (spot track line i)
  at_place-spot [] i = refl
  at_place-spot (leg ∷ line) i =
      let m = metres_of track leg.section in
      elim (le_or_lt m i) [
        | inl past ↦
            if_past (Some (say leg i)) (at_place say track line (i - m)) i m past
            ∙ at_place-spot line (i - m)
            ∙ ap (option_map (λ (p : Leg × ℕ). say p.0 p.1)) (sym (if_past (Some (leg, i)) (spot track line (i - m)) i m past))
        | inr here ↦
            if_in (Some (say leg i)) (at_place say track line (i - m)) i m here
            ∙ ap (option_map (λ (p : Leg × ℕ). say p.0 p.1)) (sym (if_in (Some (leg, i)) (spot track line (i - m)) i m here))
      ]

pub line_length-append : (track : Track) (a b : Line) → line_length track (a ++ b) ≡ line_length track a + line_length track b
line_length-append track a b = sum_by-append (λ leg. metres_of track leg.section) a b

-- equal spots have equal metres and legs
pub metre_at-spot : (track : Track) (a b : Line) (i j : ℕ) → spot track a i ≡ spot track b j → metre_at track a i ≡ metre_at track b j
metre_at-spot track a b i j e =
    at_place-spot (metre_of_leg track) track a i ∙ ap (option_map (λ (p : Leg × ℕ). metre_of_leg track p.0 p.1)) e ∙ sym (at_place-spot (metre_of_leg track) track b j)

pub leg_at-spot : (track : Track) (a b : Line) (i j : ℕ) → spot track a i ≡ spot track b j → leg_at track a i ≡ leg_at track b j
leg_at-spot track a b i j e =
    at_place-spot (λ leg k. leg) track a i ∙ ap (option_map (λ (p : Leg × ℕ). p.0)) e ∙ sym (at_place-spot (λ leg k. leg) track b j)
