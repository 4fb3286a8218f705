-- The legs and sections that an obstacle names are the track's.
use Rattle.std.proofs.Common.{◌≡◌, ℕ, ◌-◌, ◌<◌, Bool, true, false, not, cond, List, [], ◌∷◌, length, Option, Some, None, unwrap_or, refl, subst}
use Rattle.std.specs.Prelude.{◌==◌, option_map, option_and_then, find, nat_lt}
use Rattle.std.specs.Option.{option_or}
use Rattle.std.specs.List.{AllByRecursion}
use Rattle.rbc_model.specs.declared.places.Leg.{Leg}
use Rattle.rbc_model.specs.declared.places.Metre.{Metre}
use Rattle.rbc_model.specs.declared.refusals.Obstacle.{Obstacle}
use Rattle.rbc_model.specs.declared.refusals.Obstacle.TheVariants.{NoLink, NotLocked as NotLockedAhead, Own, Occupied, Held, Limit}
use Rattle.rbc_model.specs.Tracks.{Track, metres_of}
use Rattle.rbc_model.specs.Lines.{Line, last_leg, metre_at}
use Rattle.rbc_model.specs.Locks.{Locks}
use Rattle.rbc_model.specs.Trains.{Train}
use Rattle.rbc_model.specs.Scenes.{Scene, others, extent_has, authority_has}
use Rattle.rbc_model.specs.Obstacles.{obstacle, obstacle_on, no_link, not_locked, own, occupied, held, limit, unlocked_section, is_locked, way}
use Rattle.rbc_model.specs.Views.{reach, stop}
use Rattle.rbc_scene_laws.specs.Good.{IsGoodScene, IsGoodTrain}
use Rattle.rbc_scene_laws.proofs.BasicLemmas.{each_filter}
use Rattle.rbc_scene_laws.proofs.TrainListLemmas.{find-holds}
use Rattle.rbc_scene_laws.proofs.OnLineLemmas.{OnLine-IsLine}
use Rattle.rbc_scene_laws.proofs.LengtheningLemmas.{ahead_fully}

module _ (track : Track) (Known : ℕ → Type 0) where
  abbrev IsOfTrack : Leg → Type 0
  IsOfTrack leg = leg.section < length track.sections

  -- the leg or the section that an obstacle names is the track's, and its train is known
  abbrev pub IsNameable : Obstacle → Type 0
  IsNameable (NoLink leg) = IsOfTrack leg
  IsNameable (NotLockedAhead section) = section < length track.sections
  IsNameable Own = Unit {0}
  IsNameable (Occupied train) = Known train
  IsNameable (Held train) = Known train
  IsNameable Limit = Unit {0}

  -- an obstacle, if there is one
  abbrev Named : Option Obstacle → Type 0
  Named None = Unit {0}
  Named (Some named) = IsNameable named

  named_or : (a b : Option Obstacle) → Named a → Named b → Named (option_or a b)
  named_or None b h k = k
  named_or (Some x) b h k = h

  last_of_track : (line : Line) (leg : Leg) → last_leg line ≡ Some leg → AllByRecursion IsOfTrack line → IsOfTrack leg
  last_of_track [] leg e h = cc
  last_of_track (a ∷ []) leg e h = subst IsOfTrack (let same : a ≡ leg = cc in same) h.0
  last_of_track (a ∷ b ∷ line) leg e h = last_of_track (b ∷ line) leg e h.1

  named_no_link : (test : Leg → Bool) (o : Option Leg) → ((leg : Leg) → o ≡ Some leg → IsOfTrack leg) → Named (option_and_then (λ leg. cond (test leg) (Some (NoLink leg)) None) o)
  named_no_link test None h = tt
  named_no_link test (Some leg) h = by_test (test leg)
    where
      by_test : (b : Bool) → Named (cond b (Some (NoLink leg)) None)
      by_test true = h leg refl
      by_test false = tt

  named_own : (test : Leg → Bool) (o : Option Leg) → Named (option_and_then (λ leg. cond (test leg) (Some Own) None) o)
  named_own test None = tt
  named_own test (Some leg) = by_test (test leg)
    where
      by_test : (b : Bool) → Named (cond b (Some Own) None)
      by_test true = tt
      by_test false = tt

  named_section : (o : Option ℕ) → ((section : ℕ) → o ≡ Some section → section < length track.sections) → Named (option_map NotLockedAhead o)
  named_section None h = tt
  named_section (Some section) h = h section refl

  module _ (scene : Scene) (train : Train) (known : AllByRecursion (λ (other : Train). Known other.report.train) scene.trains) where
    named_train : (f : ℕ → Obstacle) → ((n : ℕ) → Known n → IsNameable (f n)) → (has : Metre → Train → Bool) (o : Option Metre)
        → Named (option_map f (option_and_then (λ metre. option_map (λ (other : Train). other.report.train) (find (has metre) (others scene train))) o))
    named_train f so has None = tt
    named_train f so has (Some metre) = by_found (find (has metre) (others scene train)) refl
      where
        by_found : (found : Option Train) → find (has metre) (others scene train) ≡ found → Named (option_map f (option_map (λ (other : Train). other.report.train) found))
        by_found None e = tt
        by_found (Some other) e =
            so other.report.train
            (find-holds (λ (t : Train). Known t.report.train) (has metre) (others scene train) other e
            (each_filter (λ (t : Train). Known t.report.train) (λ (t : Train). not (t.report.train == train.report.train)) scene.trains known))

  named_limit : (b : Bool) → Named (cond b (Some Limit) None)
  named_limit true = tt
  named_limit false = tt

  one_unlocked : (near there : Bool) (leg : Leg) (rest : Option ℕ) (section : ℕ) → cond near (cond there None (Some leg.section)) rest ≡ Some section → IsOfTrack leg
      → (rest ≡ Some section → section < length track.sections) → section < length track.sections
  one_unlocked true true leg rest section e h on = cc
  one_unlocked true false leg rest section e h on = subst (λ s. s < length track.sections) (let same : leg.section ≡ section = cc in same) h
  one_unlocked false there leg rest section e h on = on e

  unlocked_of_track : (locks : Locks) (before : Option Leg) (line : Line) (i section : ℕ) → unlocked_section track locks before line i ≡ Some section → AllByRecursion IsOfTrack line → section < length track.sections
  unlocked_of_track locks before [] i section e h = cc
  unlocked_of_track locks before (leg ∷ legs) i section e h =
      one_unlocked (nat_lt i (metres_of track leg.section)) (is_locked locks before leg) leg (unlocked_section track locks (Some leg) legs (i - metres_of track leg.section)) section e h.0
      (λ f. unlocked_of_track locks (Some leg) legs (i - metres_of track leg.section) section f h.1)

  named_on : (scene : Scene) (train : Train) (line : Line) (i : ℕ) → AllByRecursion (λ (other : Train). Known other.report.train) scene.trains → AllByRecursion IsOfTrack line
      → Named (obstacle_on track scene train line i)
  named_on scene train line i known of_track =
      named_or (no_link track scene line i) _ (named_no_link _ (last_leg line) (λ leg e. last_of_track line leg e of_track))
      (named_or (not_locked track scene line i) _ (named_section (unlocked_section track scene.locks None line i) (λ section e. unlocked_of_track scene.locks None line i section e of_track))
      (named_or (own track scene line i) _ (named_own _ (last_leg line))
      (named_or (occupied track scene train line i) _ (named_train scene train known Occupied (λ n k. k) (extent_has track) (metre_at track line i))
      (named_or (held track scene train line i) _ (named_train scene train known Held (λ n k. k) (authority_has track) (metre_at track line i))
      (named_or (limit track train i) _ (named_limit _) tt)))))

  -- what stands at a place of a train's continued line
  named_at : (scene : Scene) (train : Train) (i : ℕ) → IsGoodScene track scene → IsGoodTrain track train → AllByRecursion (λ (other : Train). Known other.report.train) scene.trains
      → Named (obstacle track scene train i)
  named_at scene train i good well known =
      let ahead = ahead_fully track scene.locks good.locks (length track.sections) train.line (OnLine-IsLine track train.line well.line) in
      let on = ahead.on in
      named_on scene train (way track scene train) i known on.of_track

  named_of : (o : Option Obstacle) → Named o → IsNameable (unwrap_or o Own)
  named_of None h = tt
  named_of (Some named) h = h

  -- what stands at the reach
  pub named_stop : (scene : Scene) (train : Train) → IsGoodScene track scene → IsGoodTrain track train → AllByRecursion (λ (other : Train). Known other.report.train) scene.trains
      → IsNameable (stop track scene train)
  named_stop scene train good well known =
      let i = reach track scene train in named_of (obstacle track scene train i) (named_at scene train i good well known)
