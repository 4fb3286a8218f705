-- A leg that ends before the place where the search begins: nothing stops a train on it.
use Rattle.std.proofs.Common.{◌≡◌, ℕ, ◌+◌, ◌-◌, ◌≤◌, max, Bool, true, false, List, [], ◌∷◌, Option, Some, None, refl, ap, sym, arith, nat_lt, nat_le}
use Rattle.std.specs.Prelude.{fold, if◌then◌else◌}
use Rattle.std.proofs.lemmas.Bool.{le-ltb, leb-true}
use Rattle.rbc_model.specs.declared.places.Leg.{Leg}
use Rattle.rbc_model.specs.declared.refusals.Obstacle.{Obstacle}
use Rattle.rbc_model.specs.Scales.{farthest}
use Rattle.rbc_model.specs.Tracks.{Track, metres_of}
use Rattle.rbc_model.specs.Trains.{Train}
use Rattle.rbc_model.specs.Scenes.{Scene, others}
use Rattle.rbc_model.specs.Views.{start_of}
use Rattle.rbc_reach_laws.specs.Spans.{first_in, unlocked_span, extent_span, authority_span}
use Rattle.rbc_reach_laws.specs.Nearest.{nearer, first_limit, nearest_on, leg_reach, leg_stop}
use Rattle.rbc_search.specs.OnLegs.{stop_or}

-- what a span has from the start on lies there, or beyond it
span_not_before : (end start p place : ℕ) (span : ℕ × ℕ) → end ≤ max start p → end ≤ place → end ≤ nearer place (first_in start p span)
span_not_before end start p place span past far = by_if (nat_lt (max start (p + span.0)) (p + span.1))
  where
    by_if : (b : Bool) → end ≤ nearer place (if b then Some (max start (p + span.0)) else None)
    by_if true = omega arith
    by_if false = far

limit_not_before : (track : Track) (train : Train) (end from place : ℕ) → end ≤ from → end ≤ place → end ≤ nearer place (first_limit track train from)
limit_not_before track train end from place past far = by_if (nat_le from (train.origin + farthest track.format)) refl
  where
    by_if : (b : Bool) → nat_le from (train.origin + farthest track.format) ≡ b → end ≤ nearer place (if b then Some (train.origin + farthest track.format) else None)
    by_if true h = let l = leb-true from (train.origin + farthest track.format) h in omega arith
    by_if false h = far

trains_not_before : (track : Track) (end start p place : ℕ) (leg : Leg) (trains : List Train) → end ≤ max start p → end ≤ place → end ≤ fold (nearest_on track start p leg) place trains
trains_not_before track end start p place leg [] past far = far
trains_not_before track end start p place leg (train ∷ trains) past far =
    trains_not_before track end start p (nearest_on track start p leg place train) leg trains past
    (span_not_before end start p (nearer place (first_in start p (extent_span track train leg))) (authority_span track train leg) past
    (span_not_before end start p place (extent_span track train leg) past far))

module _ (track : Track) (scene : Scene) (train : Train) (before : Option Leg) (p : ℕ) (leg : Leg) where
  abbrev end : ℕ
  end = p + metres_of track leg.section

  reach_not_before : end ≤ max (start_of train) p → end ≤ leg_reach track scene train before p leg
  reach_not_before past =
      let start = start_of train in
      let far : end ≤ end = omega arith in
      trains_not_before track end start p _ leg (others scene train) past
      (span_not_before end start p _ (unlocked_span track scene.locks before leg) past
      (limit_not_before track train end (max start p) end past far))

  pub nothing_behind : (metres first : ℕ) (rest : ℕ × Obstacle) → metres ≡ metres_of track leg.section → first ≡ start_of train - p → metres ≤ first → rest ≡ stop_or track scene train before p leg rest
  nothing_behind metres first rest by_leg by_start past =
      let reach = leg_reach track scene train before p leg in
      let far : end ≤ reach = reach_not_before (omega arith) in
      sym (ap (λ (b : Bool). if b then (reach, leg_stop track scene train before leg (reach - p)) else rest) (le-ltb reach end far))
