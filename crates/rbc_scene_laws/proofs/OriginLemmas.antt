-- Where a group stands on a line that loses or gains legs.
use Rattle.std.proofs.Common.{◌≡◌, ℕ, zero, suc, ◌+◌, ◌<◌, ◌≤◌, Bool, true, false, cond, ◌||◌, not, [], ◌∷◌, ◌++◌, length, drop, Option, Some, None, refl, ap, sym, ◌∙◌, subst, arith, inl, inr}
use Rattle.std.specs.Prelude.{◌==◌, option_map, unwrap_or, is_some}
use Rattle.std.specs.List.{position_or_len}
use Rattle.std.proofs.lemmas.Bool.{eqb-true, or_cases, cases_Bool, not-true, or_parts, or_from, or_left, or_right, both_ways}
use Rattle.std.proofs.lemmas.List.Folds.{list_any-append}
use Rattle.rbc_model.specs.Reports.{Report}
use Rattle.rbc_model.specs.declared.tracks.BaliseGroup.{BaliseGroup}
use Rattle.rbc_model.specs.declared.places.Leg.{Leg}
use Rattle.rbc_model.specs.Tracks.{Track, metres_of, leg_eq}
use Rattle.rbc_model.specs.Lines.{Line, line_length, has_leg, has_section, place_on, metres_to_group}
use Rattle.rbc_model.specs.SoundTracks.{sections_differ}
use Rattle.rbc_model.specs.Placing.{leg_told, running_leg, origin_on}
use Rattle.rbc_model.proofs.SamenessLemmas.{leg_eq-true}
use Rattle.rbc_scene_laws.proofs.BasicLemmas.{and_left, and_right}
use Rattle.rbc_scene_laws.proofs.OnLineLemmas.{has_section-append}
use Rattle.rbc_model.proofs.BasicLemmas.{same_number}
use Rattle.rbc_model.proofs.MetreLemmas.{line_length-cons}

-- ---- legs and sections of a line

pub has_leg-section : (line : Line) (leg : Leg) → has_leg line leg ≡ true → has_section line leg.section ≡ true
has_leg-section [] leg h = h
has_leg-section (l ∷ line) leg h =
    elim (or_cases (leg_eq leg l) (has_leg line leg) h) [
      | inl e ↦ or_left (l.section == leg.section) (has_section line leg.section) (subst (λ (z : Leg). (z.section == leg.section) ≡ true) (leg_eq-true leg l e) (same_number leg.section))
      | inr e ↦ or_right (l.section == leg.section) (has_section line leg.section) (has_leg-section line leg e)
    ]

pub has_leg-left : (a b : Line) (leg : Leg) → has_leg a leg ≡ true → has_leg (a ++ b) leg ≡ true
has_leg-left a b leg h = list_any-append (leg_eq leg) a b ∙ or_left (has_leg a leg) (has_leg b leg) h

pub has_leg-right : (a b : Line) (leg : Leg) → has_leg b leg ≡ true → has_leg (a ++ b) leg ≡ true
has_leg-right a b leg h = list_any-append (leg_eq leg) a b ∙ or_right (has_leg a leg) (has_leg b leg) h

pub some_with_leg : (line : Line) (leg : Leg) → has_leg line leg ≡ true → 0 < length line
some_with_leg [] leg h = cc
some_with_leg (l ∷ line) leg h = omega arith

-- a leg is kept where no more legs are dropped than stand before it
drop_by : (b : Bool) (k pos : ℕ) (rest : Bool) → suc k ≤ cond (not b) (1 + pos) 0 → (b || rest) ≡ true → (k ≤ pos) × (rest ≡ true)
drop_by true k pos rest h g = absurd (omega arith)
drop_by false k pos rest h g = (omega arith, g)

pub has_leg-drop : (n : ℕ) (line : Line) (leg : Leg) → n ≤ position_or_len (leg_eq leg) line → has_leg line leg ≡ true → has_leg (drop n line) leg ≡ true
has_leg-drop zero line leg h g = g
has_leg-drop (suc k) [] leg h g = g
has_leg-drop (suc k) (l ∷ line) leg h g =
    let e = drop_by (leg_eq leg l) k (position_or_len (leg_eq leg) line) (has_leg line leg) h g in
    has_leg-drop k line leg e.0 e.1

-- what stands behind on a line does not stand before
pub lacks_before : (a b : Line) (section : ℕ) → sections_differ (a ++ b) ≡ true → has_section b section ≡ true → has_section a section ≡ false
lacks_before [] b section d h = refl
lacks_before (leg ∷ a) b section d h =
    let new = not-true (has_section (a ++ b) leg.section) (and_left (not (has_section (a ++ b) leg.section)) (sections_differ (a ++ b)) d) in
    let later = lacks_before a b section (and_right (not (has_section (a ++ b) leg.section)) (sections_differ (a ++ b)) d) h in
    elim (cases_Bool (leg.section == section)) [
      | inl e ↦ absurd (both_ways (has_section (a ++ b) leg.section) new (subst (λ s. has_section (a ++ b) s ≡ true) (sym (eqb-true leg.section section e)) (has_section-append a b section ∙ or_right (has_section a section) (has_section b section) h)))
      | inr e ↦ or_from (leg.section == section) (has_section a section) e later
    ]

-- ---- a point of a section on the line

module _ (track : Track) (section : ℕ) (far : Leg → ℕ) where
  found_or : (b : Bool) (here m : ℕ) (o : Option ℕ) → (b || is_some o) ≡ true → (p : ℕ) × (cond b (Some here) (option_map (λ place. m + place) o) ≡ Some p)
  found_or true here m o h = (here, refl)
  found_or false here m None h = cc
  found_or false here m (Some p) h = (m + p, refl)

  pub place_on-some : (line : Line) → has_section line section ≡ true → (p : ℕ) × (place_on track line section far ≡ Some p)
  place_on-some [] h = cc
  place_on-some (leg ∷ line) h =
      found_or (leg.section == section) (far leg) (metres_of track leg.section) (place_on track line section far)
      (elim (or_cases (leg.section == section) (has_section line section) h) [
        | inl e ↦ or_left (leg.section == section) (is_some (place_on track line section far)) e
        | inr e ↦ or_right (leg.section == section) (is_some (place_on track line section far)) (ap is_some (place_on-some line e).1)
      ])

  left_by : (b : Bool) (here m p : ℕ) (o r : Option ℕ) → ((q : ℕ) → o ≡ Some q → r ≡ Some q) → cond b (Some here) (option_map (λ place. m + place) o) ≡ Some p → cond b (Some here) (option_map (λ place. m + place) r) ≡ Some p
  left_by true here m p o r f h = h
  left_by false here m p None r f h = cc
  left_by false here m p (Some q) r f h = ap (option_map (λ place. m + place)) (f q refl) ∙ h

  pub place_on-append_left : (a b : Line) (p : ℕ) → place_on track a section far ≡ Some p → place_on track (a ++ b) section far ≡ Some p
  place_on-append_left [] b p h = cc
  place_on-append_left (leg ∷ a) b p h = left_by (leg.section == section) (far leg) (metres_of track leg.section) p (place_on track a section far) (place_on track (a ++ b) section far) (λ q e. place_on-append_left a b q e) h

  pub place_on-append_right : (a b : Line) (p : ℕ) → has_section a section ≡ false → place_on track b section far ≡ Some p → place_on track (a ++ b) section far ≡ Some (line_length track a + p)
  place_on-append_right [] b p lacks h = h ∙ ap Some (let e : p ≡ 0 + p = omega arith in e)
  place_on-append_right (leg ∷ a) b p lacks h =
      if_not (leg.section == section) (Some (far leg)) (option_map (λ place. metres_of track leg.section + place) (place_on track (a ++ b) section far)) ((or_parts (leg.section == section) (has_section a section) lacks).0)
      ∙ ap (option_map (λ place. metres_of track leg.section + place)) (place_on-append_right a b p ((or_parts (leg.section == section) (has_section a section) lacks).1) h)
      ∙ ap Some (omega (arith, line_length-cons track leg a))
    where
      if_not : (t : Bool) (x y : Option ℕ) → t ≡ false → cond t x y ≡ y
      if_not t x y e = rw e refl

-- ---- the origin

leg_told-is : (group : BaliseGroup) (report : Report) → record { section = group.section; direction = (leg_told group report).direction } ≡ leg_told group report
leg_told-is group report = by_nominal report.nominal
  where
    by_nominal : (b : Bool) → record { section = group.section; direction = (running_leg group b).direction } ≡ running_leg group b
    by_nominal true = refl
    by_nominal false = refl

leg_told-section : (group : BaliseGroup) (report : Report) → (leg_told group report).section ≡ group.section
leg_told-section group report = by_nominal report.nominal
  where
    by_nominal : (b : Bool) → (running_leg group b).section ≡ group.section
    by_nominal true = refl
    by_nominal false = refl

module _ (track : Track) (group : BaliseGroup) (report : Report) where
  -- the line has the group's section
  pub told_section : (line : Line) → has_leg line (leg_told group report) ≡ true → has_section line group.section ≡ true
  told_section line h = subst (λ s. has_section line s ≡ true) (leg_told-section group report) (has_leg-section line (leg_told group report) h)

  if_has : (t : Bool) (o : Option ℕ) → t ≡ true → unwrap_or (cond t o None) 0 ≡ unwrap_or o 0
  if_has t o e = rw e refl

  origin_is : (line : Line) (p : ℕ) → has_leg line (leg_told group report) ≡ true → place_on track line group.section (metres_to_group track group) ≡ Some p → origin_on track group report line ≡ p
  origin_is line p has there =
      if_has (has_leg line (record { section = group.section; direction = (leg_told group report).direction })) (place_on track line group.section (metres_to_group track group)) (ap (has_leg line) (leg_told-is group report) ∙ has)
      ∙ ap (λ o. unwrap_or o 0) there

  -- legs behind don't move it
  pub origin-append_left : (a b : Line) → has_leg a (leg_told group report) ≡ true → origin_on track group report (a ++ b) ≡ origin_on track group report a
  origin-append_left a b has =
      let p = place_on-some track group.section (metres_to_group track group) a (told_section a has) in
      origin_is (a ++ b) p.0 (has_leg-left a b (leg_told group report) has) (place_on-append_left track group.section (metres_to_group track group) a b p.0 p.1)
      ∙ sym (origin_is a p.0 has p.1)

  -- legs in front shift it
  pub origin-append_right : (a b : Line) → sections_differ (a ++ b) ≡ true → has_leg b (leg_told group report) ≡ true → origin_on track group report (a ++ b) ≡ line_length track a + origin_on track group report b
  origin-append_right a b differ has =
      let p = place_on-some track group.section (metres_to_group track group) b (told_section b has) in
      origin_is (a ++ b) (line_length track a + p.0) (has_leg-right a b (leg_told group report) has)
      (place_on-append_right track group.section (metres_to_group track group) a b p.0 (lacks_before a b group.section differ (told_section b has)) p.1)
      ∙ ap (λ k. line_length track a + k) (sym (origin_is b p.0 has p.1))
