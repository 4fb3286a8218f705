-- What the search finds on one leg, by the reach of the leg and what stands there.
use Rattle.std.proofs.Common.{◌≡◌, ℕ, ◌+◌, ◌-◌, ◌<◌, ◌≤◌, max, min, Bool, true, false, List, All, [], ◌∷◌, Option, Some, None, refl, ap, sym, subst, ◌∙◌, arith, nat_lt, nat_le}
use Rattle.std.specs.Prelude.{fold, if◌then◌else◌, option_map, unwrap_or}
use Rattle.std.specs.List.{AllByRecursion}
use Rattle.std.proofs.lemmas.Bool.{lt-ltb, le-ltb, leb-true}
use Rattle.std.proofs.lemmas.List.Elements.{recursion_from_All}
use Rattle.rbc_model.specs.declared.places.Leg.{Leg}
use Rattle.rbc_model.specs.declared.refusals.Obstacle.{Obstacle}
use Rattle.rbc_model.specs.declared.refusals.Obstacle.TheVariants.{NotLocked, Occupied, Held, Limit}
use Rattle.rbc_model.specs.Scales.{farthest}
use Rattle.rbc_model.specs.Tracks.{Track, metres_of}
use Rattle.rbc_model.specs.Obstacles.{is_locked, first_some}
use Rattle.rbc_model.specs.Trains.{Train}
use Rattle.rbc_model.specs.Scenes.{Scene, others}
use Rattle.rbc_model.specs.Views.{start_of}
use Rattle.rbc_scene_laws.specs.Good.{IsGoodTrain}
use Rattle.rbc_scene_laws.proofs.OnLineLemmas.{OnLine, OnLine-IsLine}
use Rattle.rbc_reach_laws.specs.Spans.{first_in, unlocked_span, extent_span}
use Rattle.rbc_reach_laws.specs.Nearest.{nearer, nearest_on, leg_reach, leg_stop, first_having}
use Rattle.rbc_search.specs.declared.stretches.Stretch.{Stretch}
use Rattle.rbc_search.specs.Stretches.{stretches_of}
use Rattle.rbc_search.specs.OnLegs.{first_from, free_of, clear_of, stop_met, stop_or, first_train, authority_met}
use Rattle.rbc_search.proofs.LegLemmas.{LinesDiffer, nearer_moved, near_all, first_occupied, first_held}

lines_differ : (track : Track) (trains : List Train) → AllByRecursion (IsGoodTrain track) trains → LinesDiffer trains
lines_differ track [] h = tt
lines_differ track (train ∷ trains) h =
    let good = h.0 in
    let on : OnLine track train.line = OnLine-IsLine track train.line good.line in
    (on.differ, lines_differ track trains h.1)

pub good_lines_differ : (track : Track) (trains : List Train) → All (IsGoodTrain track) trains → LinesDiffer trains
good_lines_differ track trains h = lines_differ track trains (recursion_from_All (IsGoodTrain track) trains h)

free_by : (b : Bool) (limit most p metres : ℕ) → (b ≡ true → p ≤ limit) → nearer (p + metres) (if b then Some limit else None) ≡ p + (if b then min metres (limit - p) else metres)
free_by true limit most p metres h = let l = h refl in omega arith
free_by false limit most p metres h = refl

free_is : (limit start p metres : ℕ) → nearer (p + metres) (if nat_le (max start p) limit then Some limit else None) ≡ p + free_of limit start p metres
free_is limit start p metres = free_by (nat_le (max start p) limit) limit start p metres (λ h. let l = leb-true (max start p) limit h in omega arith)

module _ (track : Track) (scene : Scene) (train : Train) (before : Option Leg) (p : ℕ) (leg : Leg) (differ : LinesDiffer (others scene train)) where
  abbrev metres : ℕ
  metres = metres_of track leg.section

  abbrev free : ℕ
  free = free_of (train.origin + farthest track.format) (start_of train) p (metres_of track leg.section)

  abbrev clear : ℕ
  clear = clear_of (stretches_of track (others scene train) leg.section) (is_locked scene.locks before leg) leg.direction metres (start_of train - p) free

  pub leg_reach_is : leg_reach track scene train before p leg ≡ p + clear
  leg_reach_is =
      sym
      (near_all track leg (start_of train) p (nearer free (first_from (start_of train - p) (record { low = 0; high = if is_locked scene.locks before leg then 0 else metres }))) (others scene train) differ
      ∙ ap (λ (z : ℕ). fold (nearest_on track (start_of train) p leg) z (others scene train))
      (sym
      (ap (λ (z : ℕ). nearer z (first_in (start_of train) p (unlocked_span track scene.locks before leg))) (free_is (train.origin + farthest track.format) (start_of train) p metres)
      ∙ nearer_moved (start_of train) p free (record { low = 0; high = if is_locked scene.locks before leg then 0 else metres }))))

  pub leg_stop_is : (k : ℕ) → stop_met (stretches_of track (others scene train) leg.section) (is_locked scene.locks before leg) leg metres k ≡ leg_stop track scene train before leg k
  leg_stop_is k =
      let lock : Option Obstacle = if is_locked scene.locks before leg then None else Some (NotLocked leg.section) in
      let held : Option Obstacle = option_map Held (first_train (authority_met leg.direction metres) k (stretches_of track (others scene train) leg.section)) in
      ap (λ (o : Option ℕ). unwrap_or (first_some (lock ∷ option_map Occupied o ∷ held ∷ [])) Limit) (first_occupied track leg k (others scene train) differ)
      ∙ ap (λ (o : Option ℕ). unwrap_or (first_some (lock ∷ option_map Occupied (first_having (λ other. extent_span track other leg) k (others scene train)) ∷ option_map Held o ∷ [])) Limit) (first_held track leg k (others scene train) differ)

  pub stopped_there : (c : ℕ) (o : Obstacle) (rest : ℕ × Obstacle) → c ≡ clear → o ≡ stop_met (stretches_of track (others scene train) leg.section) (is_locked scene.locks before leg) leg metres c → c < metres →
      (p + c, o) ≡ stop_or track scene train before p leg rest
  stopped_there c o rest ce oe low =
      let reach : leg_reach track scene train before p leg ≡ p + c = leg_reach_is ∙ ap (λ (z : ℕ). p + z) (sym ce) in
      let stop : o ≡ leg_stop track scene train before leg c = oe ∙ leg_stop_is c in
      sym
      (ap (λ (z : ℕ). if nat_lt z (p + metres) then (z, leg_stop track scene train before leg (z - p)) else rest) reach
      ∙ ap (λ (b : Bool). if b then (p + c, leg_stop track scene train before leg (p + c - p)) else rest) (lt-ltb (p + c) (p + metres) (omega arith))
      ∙ ap (λ (z : ℕ). (p + c, leg_stop track scene train before leg z)) (let e : p + c - p ≡ c = omega arith in e)
      ∙ ap (λ (x : Obstacle). (p + c, x)) (sym stop))

  pub passed : (c : ℕ) (rest : ℕ × Obstacle) → c ≡ clear → metres ≤ c → rest ≡ stop_or track scene train before p leg rest
  passed c rest ce high =
      let reach : leg_reach track scene train before p leg ≡ p + c = leg_reach_is ∙ ap (λ (z : ℕ). p + z) (sym ce) in
      sym
      (ap (λ (z : ℕ). if nat_lt z (p + metres) then (z, leg_stop track scene train before leg (z - p)) else rest) reach
      ∙ ap (λ (b : Bool). if b then (p + c, leg_stop track scene train before leg (p + c - p)) else rest) (le-ltb (p + c) (p + metres) (omega arith)))

-- what stands on a leg, and how far the leg is clear, by what the code is told
module _ (track : Track) (scene : Scene) (train : Train) (before : Option Leg) (p : ℕ) (leg : Leg) (table : List Stretch) (locked : Bool) (metres first free c : ℕ) (good : All (IsGoodTrain track) (others scene train))
    (there : table ≡ stretches_of track (others scene train) leg.section) (by_lock : locked ≡ is_locked scene.locks before leg) (by_leg : metres ≡ metres_of track leg.section) (by_start : first ≡ start_of train - p)
    (by_limit : free ≡ free_of (train.origin + farthest track.format) (start_of train) p metres) (is : c ≡ clear_of table locked leg.direction metres first free) where
  clear_is : c ≡ clear track scene train before p leg (good_lines_differ track (others scene train) good)
  clear_is =
      is
      ∙ ap (λ (t : List Stretch). clear_of t locked leg.direction metres first free) there
      ∙ ap (λ (b : Bool). clear_of (stretches_of track (others scene train) leg.section) b leg.direction metres first free) by_lock
      ∙ ap (λ (f : ℕ). clear_of (stretches_of track (others scene train) leg.section) (is_locked scene.locks before leg) leg.direction metres f free) by_start
      ∙ ap (λ (f : ℕ). clear_of (stretches_of track (others scene train) leg.section) (is_locked scene.locks before leg) leg.direction metres (start_of train - p) f) by_limit
      ∙ ap (λ (m : ℕ). clear_of (stretches_of track (others scene train) leg.section) (is_locked scene.locks before leg) leg.direction m (start_of train - p) (free_of (train.origin + farthest track.format) (start_of train) p m)) by_leg

  pub found_on_leg : (o : Obstacle) (rest : ℕ × Obstacle) → o ≡ stop_met table locked leg metres c → c < metres → (p + c, o) ≡ stop_or track scene train before p leg rest
  found_on_leg o rest h low =
      stopped_there track scene train before p leg (good_lines_differ track (others scene train) good) c o rest clear_is
      (h
      ∙ ap (λ (t : List Stretch). stop_met t locked leg metres c) there
      ∙ ap (λ (b : Bool). stop_met (stretches_of track (others scene train) leg.section) b leg metres c) by_lock
      ∙ ap (λ (m : ℕ). stop_met (stretches_of track (others scene train) leg.section) (is_locked scene.locks before leg) leg m c) by_leg)
      (subst (λ (m : ℕ). c < m) by_leg low)

  pub none_on_leg : (rest : ℕ × Obstacle) → metres ≤ c → rest ≡ stop_or track scene train before p leg rest
  none_on_leg rest high = passed track scene train before p leg (good_lines_differ track (others scene train) good) c rest clear_is (subst (λ (m : ℕ). m ≤ c) by_leg high)
