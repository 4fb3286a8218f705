-- The obstacle at a place, told by legs.
use Rattle.std.specs.List.{find}
use Rattle.std.proofs.Common.{◌≡◌, ℕ, ◌+◌, ◌-◌, ◌<◌, ◌≤◌, Bool, true, false, not, cond, List, [], ◌∷◌, Option, Some, None, refl, ap, ap₂, sym, ◌∙◌, arith, inl, inr}
use Rattle.std.specs.Prelude.{is_some, is_none, ◌==◌, if◌then◌else◌, option_map, option_and_then, unwrap_or}
use Rattle.std.specs.Option.{option_or}
use Rattle.std.proofs.lemmas.Bool.{eqb-true, false_from_ne_true}
use Rattle.rbc_model.specs.declared.places.Format.{Format}
use Rattle.rbc_model.specs.declared.places.Format.TheVariants.{Near, Far}
use Rattle.rbc_model.specs.declared.places.Leg.{Leg}
use Rattle.rbc_model.specs.declared.places.Metre.{Metre}
use Rattle.rbc_model.specs.declared.refusals.Obstacle.{Obstacle}
use Rattle.rbc_model.specs.declared.refusals.Obstacle.TheVariants.{NoLink, NotLocked, Own, Occupied, Held, Limit}
use Rattle.rbc_model.specs.Scales.{farthest}
use Rattle.rbc_model.specs.Tracks.{Track, metres_of, metre_of_leg}
use Rattle.rbc_model.specs.Lines.{Line, line_length, metre_at, last_leg}
use Rattle.rbc_model.specs.Locks.{next}
use Rattle.rbc_model.specs.Trains.{Train}
use Rattle.rbc_model.specs.Scenes.{Scene, others, extent_has, authority_has}
use Rattle.rbc_model.specs.Obstacles.{first_some, no_link, not_locked, own, occupied, held, limit, is_locked, unlocked_section, obstacle_on}
use Rattle.rbc_model.proofs.ScanLemmas.{le_or_lt}
use Rattle.rbc_reach_laws.specs.Spans.{lies_in, extent_span, authority_span}
use Rattle.rbc_reach_laws.specs.Nearest.{obstacle_on_leg, obstacle_by_legs, end_obstacle}
use Rattle.rbc_reach_laws.proofs.LegSpanLemmas.{extent_has-span, authority_has-span}
use Rattle.rbc_reach_laws.proofs.ReachLemmas.{no_link-before, own-before}
use Rattle.rbc_model.proofs.BasicLemmas.{same_number, if_in, if_past}
use Rattle.rbc_model.proofs.MetreLemmas.{line_length-cons}

find_same : {X : Type 0} (f g : X → Bool) (xs : List X) → ((x : X) → f x ≡ g x) → find f xs ≡ find g xs
find_same f g [] h = refl
find_same f g (x ∷ xs) h = ap₂ (λ t o. cond t (Some x) o) (h x) (find_same f g xs h)

-- ---- the reasons at a place of a line that begins at p

told_unlocked : (t : Bool) (section : ℕ) → option_map (λ s. NotLocked s) (if t then None else Some section) ≡ (if t then None else Some (NotLocked section))
told_unlocked true section = refl
told_unlocked false section = refl

-- the first other train that has the metre
abbrev first_at : Scene → Train → (Metre → Train → Bool) → Option Metre → Option ℕ
first_at scene train has o = option_and_then (λ metre. option_map (λ (other : Train). other.report.train) (find (has metre) (others scene train))) o

module _ (track : Track) (scene : Scene) (train : Train) where
  -- the reasons but for the way's end
  abbrev on_way : Option Leg → ℕ → Line → ℕ → Option Obstacle
  on_way before p line k =
      first_some
      (option_map (λ section. NotLocked section) (unlocked_section track scene.locks before line k)
      ∷ option_map (λ other. Occupied other) (first_at scene train (extent_has track) (metre_at track line k))
      ∷ option_map (λ other. Held other) (first_at scene train (authority_has track) (metre_at track line k))
      ∷ limit track train (p + k)
      ∷ [])

  on_first : (before : Option Leg) (p : ℕ) (leg : Leg) (legs : Line) (k : ℕ) → k < metres_of track leg.section → on_way before p (leg ∷ legs) k ≡ obstacle_on_leg track scene train before p leg k
  on_first before p leg legs k h =
      let m = metres_of track leg.section in
      ap₂ (λ o metre.
      first_some (option_map (λ section. NotLocked section) o ∷ option_map (λ other. Occupied other) (first_at scene train (extent_has track) metre) ∷ option_map (λ other. Held other) (first_at scene train (authority_has track) metre) ∷ limit track train (p + k) ∷ []))
      (if_in (if is_locked scene.locks before leg then None else Some leg.section) (unlocked_section track scene.locks (Some leg) legs (k - m)) k m h)
      (if_in (Some (metre_of_leg track leg k)) (metre_at track legs (k - m)) k m h)
      ∙ ap (λ o. first_some (o ∷ option_map (λ other. Occupied other) (first_at scene train (extent_has track) (Some (metre_of_leg track leg k))) ∷ option_map (λ other. Held other) (first_at scene train (authority_has track) (Some (metre_of_leg track leg k))) ∷ limit track train (p + k) ∷ []))
      (told_unlocked (is_locked scene.locks before leg) leg.section)
      ∙ ap₂ (λ (e : Option Train) (a : Option Train).
      first_some ((if is_locked scene.locks before leg then None else Some (NotLocked leg.section)) ∷ option_map (λ other. Occupied other) (option_map (λ (other : Train). other.report.train) e) ∷ option_map (λ other. Held other) (option_map (λ (other : Train). other.report.train) a) ∷ limit track train (p + k) ∷ []))
      (find_same (extent_has track (metre_of_leg track leg k)) (λ other. lies_in (extent_span track other leg) k) (others scene train) (λ other. extent_has-span track leg k other h))
      (find_same (authority_has track (metre_of_leg track leg k)) (λ other. lies_in (authority_span track other leg) k) (others scene train) (λ other. authority_has-span track leg k other h))

  on_later : (before : Option Leg) (p : ℕ) (leg : Leg) (legs : Line) (k : ℕ) → metres_of track leg.section ≤ k → on_way before p (leg ∷ legs) k ≡ on_way (Some leg) (p + metres_of track leg.section) legs (k - metres_of track leg.section)
  on_later before p leg legs k h =
      let m = metres_of track leg.section in
      ap₂ (λ o metre.
      first_some (option_map (λ section. NotLocked section) o ∷ option_map (λ other. Occupied other) (first_at scene train (extent_has track) metre) ∷ option_map (λ other. Held other) (first_at scene train (authority_has track) metre) ∷ limit track train (p + k) ∷ []))
      (if_past (if is_locked scene.locks before leg then None else Some leg.section) (unlocked_section track scene.locks (Some leg) legs (k - m)) k m h)
      (if_past (Some (metre_of_leg track leg k)) (metre_at track legs (k - m)) k m h)
      ∙ ap (λ j.
      first_some (option_map (λ section. NotLocked section) (unlocked_section track scene.locks (Some leg) legs (k - m)) ∷ option_map (λ other. Occupied other) (first_at scene train (extent_has track) (metre_at track legs (k - m))) ∷ option_map (λ other. Held other) (first_at scene train (authority_has track) (metre_at track legs (k - m))) ∷ limit track train j ∷ []))
      (let e : p + k ≡ p + m + (k - m) = omega arith in e)

  on_way-legs : (before : Option Leg) (p : ℕ) (line : Line) (k : ℕ) → k < line_length track line → on_way before p line k ≡ obstacle_by_legs track scene train before p line k
  on_way-legs before p [] k h = absurd (omega arith)
  on_way-legs before p (leg ∷ legs) k h =
      let m = metres_of track leg.section in
      elim (le_or_lt m k) [
        | inl past ↦
            on_later before p leg legs k past
            ∙ on_way-legs (Some leg) (p + m) legs (k - m) (omega (arith, line_length-cons track leg legs))
            ∙ sym (if_past (obstacle_on_leg track scene train before p leg k) (obstacle_by_legs track scene train (Some leg) (p + m) legs (k - m)) k m past)
        | inr here ↦
            on_first before p leg legs k here
            ∙ sym (if_in (obstacle_on_leg track scene train before p leg k) (obstacle_by_legs track scene train (Some leg) (p + m) legs (k - m)) k m here)
      ]

  -- before the way's end
  pub obstacle_on-legs : (line : Line) (i : ℕ) → i < line_length track line → obstacle_on track scene train line i ≡ obstacle_by_legs track scene train None 0 line i
  obstacle_on-legs line i h =
      ap₂ (λ a b. first_some (a ∷ not_locked track scene line i ∷ b ∷ occupied track scene train line i ∷ held track scene train line i ∷ limit track train i ∷ []))
      (no_link-before track scene line i h) (own-before track scene line i h)
      ∙ no_first (not_locked track scene line i) (first_some (occupied track scene train line i ∷ held track scene train line i ∷ limit track train i ∷ []))
      ∙ ap (λ j. first_some (not_locked track scene line i ∷ occupied track scene train line i ∷ held track scene train line i ∷ limit track train j ∷ [])) (let e : i ≡ 0 + i = omega arith in e)
      ∙ on_way-legs None 0 line i h
    where
      no_first : (a b : Option Obstacle) → option_or None (option_or a (option_or None b)) ≡ option_or a b
      no_first None b = refl
      no_first (Some x) b = refl

  -- ---- at the way's end

  unlocked_past : (before : Option Leg) (line : Line) (k : ℕ) → line_length track line ≤ k → unlocked_section track scene.locks before line k ≡ None
  unlocked_past before [] k h = refl
  unlocked_past before (leg ∷ legs) k h =
      let m = metres_of track leg.section in
      if_past (if is_locked scene.locks before leg then None else Some leg.section) (unlocked_section track scene.locks (Some leg) legs (k - m)) k m (omega (arith, line_length-cons track leg legs))
      ∙ unlocked_past (Some leg) legs (k - m) (omega (arith, line_length-cons track leg legs))

  at_end : (a b c rest : Option Obstacle) (t : Bool) (leg : Leg) → a ≡ (if t then Some (NoLink leg) else None) → b ≡ None → c ≡ (if not t then Some Own else None) → unwrap_or (option_or a (option_or b (option_or c rest))) Own ≡ (if t then NoLink leg else Own)
  at_end a b c rest true leg p q r = ap (λ x. unwrap_or (option_or x (option_or b (option_or c rest))) Own) p
  at_end a b c rest false leg p q r = ap (λ x. unwrap_or (option_or x (option_or b (option_or c rest))) Own) p ∙ ap₂ (λ x y. unwrap_or (option_or x (option_or y rest)) Own) q r

  some_not_none : {X : Type 0} (o : Option X) → is_some o ≡ not (is_none o)
  some_not_none None = refl
  some_not_none (Some x) = refl

  no_link_end : (line : Line) (leg : Leg) → last_leg line ≡ Some leg → no_link track scene line (line_length track line) ≡ (if is_none (next scene.locks leg) then Some (NoLink leg) else None)
  no_link_end line leg last = rw (last, same_number) refl

  own_end : (line : Line) (leg : Leg) → last_leg line ≡ Some leg → own track scene line (line_length track line) ≡ (if not (is_none (next scene.locks leg)) then Some Own else None)
  own_end line leg last = rw (last, same_number) (ap (λ t. if t then Some Own else None) (some_not_none (next scene.locks leg)))

  pub obstacle_on-end : (line : Line) (leg : Leg) → last_leg line ≡ Some leg → unwrap_or (obstacle_on track scene train line (line_length track line)) Own ≡ end_obstacle scene leg
  obstacle_on-end line leg last =
      let i = line_length track line in
      at_end (no_link track scene line i) (not_locked track scene line i) (own track scene line i) (first_some (occupied track scene train line i ∷ held track scene train line i ∷ limit track train i ∷ []))
      (is_none (next scene.locks leg)) leg
      (no_link_end line leg last)
      (ap (option_map (λ section. NotLocked section)) (unlocked_past None line i (omega arith)))
      (own_end line leg last)

  -- a line with no legs
  far_away : (format : Format) → 0 < farthest format
  far_away Near = omega arith
  far_away Far = omega arith

  pub obstacle_on-nothing : unwrap_or (obstacle_on track scene train [] 0) Own ≡ Own
  obstacle_on-nothing = ap (λ t. unwrap_or (option_or (if t then Some Limit else None) None) Own) (false_from_ne_true (0 == train.origin + farthest track.format) (λ e. let s = eqb-true 0 (train.origin + farthest track.format) e in let f = far_away track.format in omega arith))
