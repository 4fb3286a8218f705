-- The reach and what stands there, found by a walk of the legs.
use Rattle.std.specs.List.{list_any, find}
use Rattle.std.proofs.Common.{◌≡◌, ℕ, ◌+◌, ◌-◌, ◌<◌, ◌≤◌, max, Bool, true, false, ◌||◌, List, [], ◌∷◌, Option, Some, None, refl, ap, ap₂, sym, subst, ◌∙◌, arith, ◌⊎◌, inl, inr, nat_lt}
use Rattle.std.specs.Prelude.{is_some, not, option_map, if◌then◌else◌, unwrap_or}
use Rattle.std.specs.Option.{option_map_or}
use Rattle.std.proofs.lemmas.Bool.{ltb-true}
use Rattle.rbc_model.specs.declared.places.Leg.{Leg}
use Rattle.rbc_model.specs.declared.refusals.Obstacle.{Obstacle}
use Rattle.rbc_model.specs.declared.refusals.Obstacle.TheVariants.{NotLocked, Own, Occupied, Held, Limit}
use Rattle.rbc_model.specs.Scales.{farthest}
use Rattle.rbc_model.specs.Tracks.{Track, metres_of}
use Rattle.rbc_model.specs.Lines.{Line, line_length, last_leg}
use Rattle.rbc_model.specs.Trains.{Train}
use Rattle.rbc_model.specs.Scenes.{Scene, others}
use Rattle.rbc_model.specs.Obstacles.{obstacle_on, first_some, is_locked, unlocked_section, way}
use Rattle.rbc_model.specs.Views.{start_of, way_end, reach, stop}
use Rattle.rbc_model.proofs.ScanLemmas.{le_or_lt}
use Rattle.rbc_reach_laws.specs.Spans.{lies_in, extent_span, authority_span, unlocked_span, first_in}
use Rattle.rbc_reach_laws.specs.Nearest.{nearer, first_limit, leg_reach, first_having, obstacle_on_leg, leg_stop, obstacle_by_legs, end_obstacle, walk}
use Rattle.rbc_reach_laws.proofs.FirstLemmas.{IsNearest, IsNearest-unique, IsNearest-same, IsNearest-then, IsNearest-nothing, IsNearest-nearer, IsNearest-each}
use Rattle.rbc_reach_laws.proofs.ByLegLemmas.{at_leg, IsFound-first_in}
use Rattle.rbc_reach_laws.proofs.PlaceLemmas.{extent_at, authority_at, extent_at-leg, authority_at-leg, unlocked_at-leg, extent_on, authority_on, unlocked_on, unlocked_within}
use Rattle.rbc_reach_laws.proofs.ReachLemmas.{some_mapped, some_found, any_either, any_same, limit_at, blocked_at, IsFound-first_limit, IsNearest-reach}
use Rattle.rbc_reach_laws.proofs.ObstacleLemmas.{obstacle_on-legs, obstacle_on-end, obstacle_on-nothing}
use Rattle.rbc_model.proofs.BasicLemmas.{if_in, if_past}
use Rattle.rbc_model.proofs.MetreLemmas.{line_length-cons}

module _ (track : Track) (scene : Scene) (train : Train) where
  -- whether some reason stands at the place j, on a line that begins at the place p
  abbrev reason_at : Option Leg → ℕ → Line → ℕ → Bool
  reason_at before p line j =
      ((false || limit_at track train j) || at_leg (λ b l k. lies_in (unlocked_span track scene.locks b l) k) track before line (j - p))
      || list_any (λ other. at_leg (λ b l k. lies_in (extent_span track other l) k) track before line (j - p) || at_leg (λ b l k. lies_in (authority_span track other l) k) track before line (j - p)) (others scene train)

  -- whether some reason stands at the place j, on a leg that begins at the place p
  abbrev reason_on : Option Leg → ℕ → Leg → ℕ → Bool
  reason_on before p leg j =
      ((false || limit_at track train j) || lies_in (unlocked_span track scene.locks before leg) (j - p))
      || list_any (λ other. lies_in (extent_span track other leg) (j - p) || lies_in (authority_span track other leg) (j - p)) (others scene train)

  -- tests that are equal, each by its part
  parts_same : (l u v : Bool) (f g h k : Train → Bool) → u ≡ v → ((o : Train) → f o ≡ g o) → ((o : Train) → h o ≡ k o) →
      (((false || l) || u) || list_any (λ o. f o || h o) (others scene train)) ≡ (((false || l) || v) || list_any (λ o. g o || k o) (others scene train))
  parts_same l u v f g h k e p q =
      ap₂ (λ a b. ((false || l) || a) || b) e (any_same (λ o. f o || h o) (λ o. g o || k o) (others scene train) (λ o. ap₂ (λ a b. a || b) (p o) (q o)))

  reason_here : (before : Option Leg) (p : ℕ) (leg : Leg) (legs : Line) (j : ℕ) → j - p < metres_of track leg.section → reason_on before p leg j ≡ reason_at before p (leg ∷ legs) j
  reason_here before p leg legs j h =
      let m = metres_of track leg.section in
      parts_same (limit_at track train j)
      (lies_in (unlocked_span track scene.locks before leg) (j - p))
      (at_leg (λ b l k. lies_in (unlocked_span track scene.locks b l) k) track before (leg ∷ legs) (j - p))
      (λ other. lies_in (extent_span track other leg) (j - p))
      (λ other. at_leg (λ b l k. lies_in (extent_span track other l) k) track before (leg ∷ legs) (j - p))
      (λ other. lies_in (authority_span track other leg) (j - p))
      (λ other. at_leg (λ b l k. lies_in (authority_span track other l) k) track before (leg ∷ legs) (j - p))
      (sym (if_in (lies_in (unlocked_span track scene.locks before leg) (j - p)) (at_leg (λ b l k. lies_in (unlocked_span track scene.locks b l) k) track (Some leg) legs (j - p - m)) (j - p) m h))
      (λ other. sym (if_in (lies_in (extent_span track other leg) (j - p)) (at_leg (λ b l k. lies_in (extent_span track other l) k) track (Some leg) legs (j - p - m)) (j - p) m h))
      (λ other. sym (if_in (lies_in (authority_span track other leg) (j - p)) (at_leg (λ b l k. lies_in (authority_span track other l) k) track (Some leg) legs (j - p - m)) (j - p) m h))

  past_leg : (say : Option Leg → Leg → ℕ × ℕ) (before : Option Leg) (p : ℕ) (leg : Leg) (legs : Line) (j : ℕ) → metres_of track leg.section ≤ j - p →
      at_leg (λ b l k. lies_in (say b l) k) track (Some leg) legs (j - (p + metres_of track leg.section)) ≡ at_leg (λ b l k. lies_in (say b l) k) track before (leg ∷ legs) (j - p)
  past_leg say before p leg legs j h =
      let m = metres_of track leg.section in
      sym (if_past (lies_in (say before leg) (j - p)) (at_leg (λ b l k. lies_in (say b l) k) track (Some leg) legs (j - p - m)) (j - p) m h
      ∙ ap (at_leg (λ b l k. lies_in (say b l) k) track (Some leg) legs) (let e : j - p - m ≡ j - (p + m) = omega arith in e))

  reason_later : (before : Option Leg) (p : ℕ) (leg : Leg) (legs : Line) (j : ℕ) → metres_of track leg.section ≤ j - p → reason_at (Some leg) (p + metres_of track leg.section) legs j ≡ reason_at before p (leg ∷ legs) j
  reason_later before p leg legs j h =
      let m = metres_of track leg.section in
      parts_same (limit_at track train j)
      (at_leg (λ b l k. lies_in (unlocked_span track scene.locks b l) k) track (Some leg) legs (j - (p + m)))
      (at_leg (λ b l k. lies_in (unlocked_span track scene.locks b l) k) track before (leg ∷ legs) (j - p))
      (λ other. at_leg (λ b l k. lies_in (extent_span track other l) k) track (Some leg) legs (j - (p + m)))
      (λ other. at_leg (λ b l k. lies_in (extent_span track other l) k) track before (leg ∷ legs) (j - p))
      (λ other. at_leg (λ b l k. lies_in (authority_span track other l) k) track (Some leg) legs (j - (p + m)))
      (λ other. at_leg (λ b l k. lies_in (authority_span track other l) k) track before (leg ∷ legs) (j - p))
      (past_leg (unlocked_span track scene.locks) before p leg legs j h)
      (λ other. past_leg (λ b l. extent_span track other l) before p leg legs j h)
      (λ other. past_leg (λ b l. authority_span track other l) before p leg legs j h)

  reason_blocked : (line : Line) (j : ℕ) → blocked_at track scene train line j ≡ reason_at None 0 line j
  reason_blocked line j =
      parts_same (limit_at track train j)
      (is_some (unlocked_section track scene.locks None line j))
      (at_leg (λ b l k. lies_in (unlocked_span track scene.locks b l) k) track None line (j - 0))
      (λ other. extent_at track line other j)
      (λ other. at_leg (λ b l k. lies_in (extent_span track other l) k) track None line (j - 0))
      (λ other. authority_at track line other j)
      (λ other. at_leg (λ b l k. lies_in (authority_span track other l) k) track None line (j - 0))
      (unlocked_at-leg track scene.locks line j ∙ ap (at_leg (λ b l k. lies_in (unlocked_span track scene.locks b l) k) track None line) (let e : j ≡ j - 0 = omega arith in e))
      (λ other. extent_at-leg track line other j ∙ ap (at_leg (λ b l k. lies_in (extent_span track other l) k) track None line) (let e : j ≡ j - 0 = omega arith in e))
      (λ other. authority_at-leg track line other j ∙ ap (at_leg (λ b l k. lies_in (authority_span track other l) k) track None line) (let e : j ≡ j - 0 = omega arith in e))

  -- ---- the nearest on a leg

  IsNearest-leg : (before : Option Leg) (p : ℕ) (leg : Leg) → IsNearest (reason_on before p leg) (max (start_of train) p) (p + metres_of track leg.section) (leg_reach track scene train before p leg)
  IsNearest-leg before p leg =
      let start = start_of train in
      let m = metres_of track leg.section in
      let low = max start p in
      let end = p + m in
      IsNearest-each (λ other j. lies_in (extent_span track other leg) (j - p)) (λ other j. lies_in (authority_span track other leg) (j - p))
      (λ other. first_in start p (extent_span track other leg)) (λ other. first_in start p (authority_span track other leg)) low end end (others scene train)
      (λ j. (false || limit_at track train j) || lies_in (unlocked_span track scene.locks before leg) (j - p))
      (nearer (nearer end (first_limit track train low)) (first_in start p (unlocked_span track scene.locks before leg)))
      (omega arith)
      (λ other. IsFound-first_in start p m (extent_span track other leg) (extent_on track other before leg))
      (λ other. IsFound-first_in start p m (authority_span track other leg) (authority_on track other before leg))
      (IsNearest-nearer (λ j. false || limit_at track train j) (λ j. lies_in (unlocked_span track scene.locks before leg) (j - p)) low end end (nearer end (first_limit track train low)) (first_in start p (unlocked_span track scene.locks before leg)) (omega arith)
      (IsNearest-nearer (λ j. false) (limit_at track train) low end (max end (train.origin + farthest track.format + 1)) end (first_limit track train low) (omega arith) (IsNearest-nothing low end) (IsFound-first_limit track scene train low end))
      (IsFound-first_in start p m (unlocked_span track scene.locks before leg) (unlocked_on track scene.locks before leg)))

  by_if : (t : Bool) (x y : ℕ × Obstacle) → (if t then x else y).0 ≡ (if t then x.0 else y.0)
  by_if true x y = refl
  by_if false x y = refl

  IsNearest-walk : (before : Option Leg) (p : ℕ) (line : Line) → IsNearest (reason_at before p line) (max (start_of train) p) (p + line_length track line) (walk track scene train before p line).0
  IsNearest-walk before p [] = record { le = omega arith; low = λ h. absurd (omega arith); passes = λ h. absurd (omega arith); before = λ j l u. absurd (omega arith) }
  IsNearest-walk before p (leg ∷ legs) =
      let start = start_of train in
      let m = metres_of track leg.section in
      let long = line_length-cons track leg legs in
      let rest = line_length track legs in
      let r = leg_reach track scene train before p leg in
      let w = walk track scene train (Some leg) (p + m) legs in
      subst (λ place. IsNearest (reason_at before p (leg ∷ legs)) (max start p) (p + line_length track (leg ∷ legs)) place)
      (sym (by_if (nat_lt r (p + m)) (r, leg_stop track scene train before leg (r - p)) w))
      (subst (λ h. IsNearest (reason_at before p (leg ∷ legs)) (max start p) h (if nat_lt r (p + m) then r else w.0))
      (let e : p + m + rest ≡ p + line_length track (leg ∷ legs) = omega arith in e)
      (IsNearest-then (reason_at before p (leg ∷ legs)) (max start p) (p + m) (max start (p + m)) (p + m + rest) r w.0 (omega arith) (omega arith)
      (IsNearest-same (reason_on before p leg) (reason_at before p (leg ∷ legs)) (max start p) (p + m) r (λ j l u. reason_here before p leg legs j (omega arith)) (IsNearest-leg before p leg))
      (IsNearest-same (reason_at (Some leg) (p + m) legs) (reason_at before p (leg ∷ legs)) (max start (p + m)) (p + m + rest) w.0 (λ j l u. reason_later before p leg legs j (omega arith)) (IsNearest-walk (Some leg) (p + m) legs))))

  -- the walk ends at the reach
  pub reach-walk : (walk track scene train None 0 (way track scene train)).0 ≡ reach track scene train
  reach-walk =
      let line = way track scene train in
      let start = start_of train in
      let place = (walk track scene train None 0 line).0 in
      let start_same : max start 0 ≡ start = omega arith in
      let end_same : 0 + line_length track line ≡ line_length track line = omega arith in
      IsNearest-unique (blocked_at track scene train line) start (way_end track scene train) place (reach track scene train)
      (IsNearest-same (reason_at None 0 line) (blocked_at track scene train line) start (way_end track scene train) place (λ j l u. sym (reason_blocked line j))
      (subst (λ s. IsNearest (reason_at None 0 line) s (line_length track line) place) start_same
      (subst (λ h. IsNearest (reason_at None 0 line) (max start 0) h place) end_same (IsNearest-walk None 0 line))))
      (IsNearest-reach track scene train)

  -- ---- what stands there

  -- what stands at the end of a line, behind a leg
  abbrev end_of : Option Leg → Line → Obstacle
  end_of before [] = option_map_or (end_obstacle scene) before Own
  end_of before (leg ∷ legs) = end_of (Some leg) legs

  abbrev stands : Option Leg → ℕ → Line → ℕ → Obstacle
  stands before p line r = if nat_lt r (p + line_length track line) then unwrap_or (obstacle_by_legs track scene train before p line (r - p)) Own else end_of before line

  if_place : (t : Bool) (x y : ℕ × Obstacle) (f : ℕ → Obstacle) → (t ≡ true → x.1 ≡ f x.0) → (t ≡ false → y.1 ≡ f y.0) → (if t then x else y).1 ≡ f (if t then x else y).0
  if_place true x y f h k = h refl
  if_place false x y f h k = k refl

  -- on a leg with an obstacle the last reason is the limit
  or_limit : (a b c : Option Obstacle) (t : Bool) → (((false || t) || is_some a) || (is_some b || is_some c)) ≡ true → unwrap_or (first_some (a ∷ b ∷ c ∷ (if t then Some Limit else None) ∷ [])) Own ≡ unwrap_or (first_some (a ∷ b ∷ c ∷ [])) Limit
  or_limit (Some x) b c t h = refl
  or_limit None (Some x) c t h = refl
  or_limit None None (Some x) t h = refl
  or_limit None None None true h = refl
  or_limit None None None false h = cc

  some_unless : (t : Bool) (section : ℕ) → not t ≡ is_some (if t then None else Some (NotLocked section))
  some_unless true section = refl
  some_unless false section = refl

  some_having : (test : Train → Bool) (trains : List Train) (say : ℕ → Obstacle) → list_any test trains ≡ is_some (option_map say (option_map (λ (other : Train). other.report.train) (find test trains)))
  some_having test trains say =
      sym (some_mapped say (option_map (λ (other : Train). other.report.train) (find test trains)) ∙ some_mapped (λ (other : Train). other.report.train) (find test trains) ∙ some_found test trains)

  pub leg_stop-obstacle : (before : Option Leg) (p : ℕ) (leg : Leg) → leg_reach track scene train before p leg < p + metres_of track leg.section →
      unwrap_or (obstacle_on_leg track scene train before p leg (leg_reach track scene train before p leg - p)) Own ≡ leg_stop track scene train before leg (leg_reach track scene train before p leg - p)
  leg_stop-obstacle before p leg h =
      let r = leg_reach track scene train before p leg in
      let f = IsNearest-leg before p leg in
      let l = f.low h in
      or_limit (if is_locked scene.locks before leg then None else Some (NotLocked leg.section))
      (option_map (λ other. Occupied other) (first_having (λ other. extent_span track other leg) (r - p) (others scene train)))
      (option_map (λ other. Held other) (first_having (λ other. authority_span track other leg) (r - p) (others scene train)))
      (limit_at track train (p + (r - p)))
      (sym (ap₂ (λ x y. x || y)
      (ap₂ (λ x y. (false || x) || y)
      (ap (limit_at track train) (let e : r ≡ p + (r - p) = omega arith in e))
      (sym (unlocked_within track scene.locks before leg (r - p) (omega arith)) ∙ some_unless (is_locked scene.locks before leg) leg.section))
      (sym (any_either (λ other. lies_in (extent_span track other leg) (r - p)) (λ other. lies_in (authority_span track other leg) (r - p)) (others scene train))
      ∙ ap₂ (λ x y. x || y)
      (some_having (λ other. lies_in (extent_span track other leg) (r - p)) (others scene train) (λ other. Occupied other))
      (some_having (λ other. lies_in (authority_span track other leg) (r - p)) (others scene train) (λ other. Held other))))
      ∙ f.passes h)

  stands_later : (before : Option Leg) (p : ℕ) (leg : Leg) (legs : Line) (r : ℕ) → p + metres_of track leg.section ≤ r → stands before p (leg ∷ legs) r ≡ stands (Some leg) (p + metres_of track leg.section) legs r
  stands_later before p leg legs r h =
      let m = metres_of track leg.section in
      let long = line_length-cons track leg legs in
      ap₂ (λ n o. if nat_lt r n then unwrap_or o Own else end_of (Some leg) legs)
      (let e : p + line_length track (leg ∷ legs) ≡ p + m + line_length track legs = omega arith in e)
      (if_past (obstacle_on_leg track scene train before p leg (r - p)) (obstacle_by_legs track scene train (Some leg) (p + m) legs (r - p - m)) (r - p) m (omega arith)
      ∙ ap (obstacle_by_legs track scene train (Some leg) (p + m) legs) (let e : r - p - m ≡ r - (p + m) = omega arith in e))

  walk-stands : (before : Option Leg) (p : ℕ) (line : Line) → (walk track scene train before p line).1 ≡ stands before p line (walk track scene train before p line).0
  walk-stands before p [] = sym (if_past (unwrap_or (obstacle_by_legs track scene train before p [] (p - p)) Own) (end_of before []) p (p + line_length track []) (omega arith))
  walk-stands before p (leg ∷ legs) =
      let start = start_of train in
      let m = metres_of track leg.section in
      let long = line_length-cons track leg legs in
      let rest = line_length track legs in
      let r = leg_reach track scene train before p leg in
      let w = walk track scene train (Some leg) (p + m) legs in
      let f = IsNearest-leg before p leg in
      let g = IsNearest-walk (Some leg) (p + m) legs in
      if_place (nat_lt r (p + m)) (r, leg_stop track scene train before leg (r - p)) w (stands before p (leg ∷ legs))
      (λ h.
      let u = ltb-true r (p + m) h in
      let l = f.low u in
      sym (leg_stop-obstacle before p leg u)
      ∙ sym (if_in (unwrap_or (obstacle_by_legs track scene train before p (leg ∷ legs) (r - p)) Own) (end_of before (leg ∷ legs)) r (p + line_length track (leg ∷ legs)) (omega arith)
      ∙ ap (λ o. unwrap_or o Own) (if_in (obstacle_on_leg track scene train before p leg (r - p)) (obstacle_by_legs track scene train (Some leg) (p + m) legs (r - p - m)) (r - p) m (omega arith))))
      (λ h. walk-stands (Some leg) (p + m) legs ∙ sym (stands_later before p leg legs w.0 (beyond (le_or_lt (p + m + rest) w.0) g)))
    where
      -- the walk of the later legs ends on them or at their end
      beyond : (p + metres_of track leg.section + line_length track legs ≤ (walk track scene train (Some leg) (p + metres_of track leg.section) legs).0) ⊎ ((walk track scene train (Some leg) (p + metres_of track leg.section) legs).0 < p + metres_of track leg.section + line_length track legs) → IsNearest (reason_at (Some leg) (p + metres_of track leg.section) legs) (max (start_of train) (p + metres_of track leg.section)) (p + metres_of track leg.section + line_length track legs) (walk track scene train (Some leg) (p + metres_of track leg.section) legs).0 → p + metres_of track leg.section ≤ (walk track scene train (Some leg) (p + metres_of track leg.section) legs).0
      beyond (inl h) n = omega arith
      beyond (inr h) n = let l = n.low h in omega arith

  end_of-last : (before : Option Leg) (line : Line) → end_of before line ≡ (option_map_or (end_obstacle scene) (last_leg line) (option_map_or (end_obstacle scene) before Own))
  end_of-last before [] = refl
  end_of-last before (leg ∷ []) = refl
  end_of-last before (leg ∷ next ∷ legs) = end_of-last (Some leg) (next ∷ legs) ∙ last_kept next legs (option_map_or (end_obstacle scene) (Some leg) Own) (option_map_or (end_obstacle scene) before Own)
    where
      last_kept : (a : Leg) (more : Line) (x y : Obstacle) → option_map_or (end_obstacle scene) (last_leg (a ∷ more)) x ≡ option_map_or (end_obstacle scene) (last_leg (a ∷ more)) y
      last_kept a [] x y = refl
      last_kept a (b ∷ more) x y = last_kept b more x y

  has_last : (leg : Leg) (legs : Line) → (last : Leg) × (last_leg (leg ∷ legs) ≡ Some last)
  has_last leg [] = (leg, refl)
  has_last leg (next ∷ legs) = has_last next legs

  -- what the definitions find at a line's end
  stop_end : (line : Line) → unwrap_or (obstacle_on track scene train line (line_length track line)) Own ≡ end_of None line
  stop_end [] = obstacle_on-nothing track scene train
  stop_end (leg ∷ legs) =
      let last = has_last leg legs in
      obstacle_on-end track scene train (leg ∷ legs) last.0 last.1
      ∙ sym (end_of-last None (leg ∷ legs) ∙ ap (λ o. option_map_or (end_obstacle scene) o Own) last.1)

  -- and before it
  stop_at : (line : Line) (r : ℕ) → r ≤ line_length track line → unwrap_or (obstacle_on track scene train line r) Own ≡ stands None 0 line r
  stop_at line r h =
      elim (le_or_lt (line_length track line) r) [
        | inl past ↦
            ap (λ i. unwrap_or (obstacle_on track scene train line i) Own) (let e : r ≡ line_length track line = omega arith in e)
            ∙ stop_end line
            ∙ sym (if_past (unwrap_or (obstacle_by_legs track scene train None 0 line (r - 0)) Own) (end_of None line) r (0 + line_length track line) (omega arith))
        | inr here ↦
            ap (λ o. unwrap_or o Own) (obstacle_on-legs track scene train line r here)
            ∙ ap (λ j. unwrap_or (obstacle_by_legs track scene train None 0 line j) Own) (let e : r ≡ r - 0 = omega arith in e)
            ∙ sym (if_in (unwrap_or (obstacle_by_legs track scene train None 0 line (r - 0)) Own) (end_of None line) r (0 + line_length track line) (omega arith))
      ]

  -- the walk tells what stands at the reach
  pub stop-walk : (walk track scene train None 0 (way track scene train)).1 ≡ stop track scene train
  stop-walk =
      let line = way track scene train in
      let near = (IsNearest-reach track scene train).le in
      walk-stands None 0 line
      ∙ ap (stands None 0 line) reach-walk
      ∙ sym (stop_at line (reach track scene train) near)
