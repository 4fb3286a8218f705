-- A train that holds no metre of another, and only locked ones, leaves the scene good.
use Rattle.std.proofs.Common.{◌≡◌, ℕ, ◌+◌, ◌≤◌, Bool, true, false, not, ◌&&◌, ◌||◌, cond, List, [], ◌∷◌, ◌++◌, length, length-append, map, max, min, nat_lt, Option, Some, None, refl, ap, arith}
use Rattle.std.specs.Prelude.{◌==◌, find, is_some, option_map, IsTrue}
use Rattle.std.specs.List.{AllByRecursion, list_any}
use Rattle.std.specs.Option.{option_or}
use Rattle.rbc_model.specs.declared.limits.TheConstants.{MOST_TRAINS}
use Rattle.rbc_model.specs.declared.places.Metre.{Metre}
use Rattle.rbc_model.specs.Tracks.{Track, IsMetreOf, metres_of}
use Rattle.rbc_model.specs.Lines.{Line}
use Rattle.rbc_model.specs.Locks.{Locks}
use Rattle.rbc_model.specs.Obstacles.{is_locked}
use Rattle.rbc_model.specs.Trains.{Train}
use Rattle.rbc_model.specs.Scenes.{Scene, authority_has, train_numbered}
use Rattle.rbc_model.specs.Events.{with_train}
use Rattle.rbc_scene_laws.specs.Good.{IsGoodScene, IsGoodTrain}
use Rattle.rbc_scene_laws.proofs.AuthorityLemmas.{good_with_train}
use Rattle.rbc_scene_laws.proofs.BasicLemmas.{each_both, each_weaker}
use Rattle.rbc_scene_laws.proofs.TrainListLemmas.{find-none}
use Rattle.rbc_good_laws.specs.Tests.{hold_both, legs_locked, share_metre}
use Rattle.rbc_good_laws.proofs.TestLemmas.{held_locked_by_legs, pair_apart}
use Rattle.rbc_scene_reading.specs.declared.fault.SceneFault.TheVariants.{NotLocked, Held as HeldTwice}
use Rattle.rbc_scene_reading.specs.Reading.{first_shared, first_sharing, first_unlocked, held_fault}
use Rattle.rbc_scene_reading.specs.Readings.{IsNew}

-- ---- what it holds is locked

pub all_locked : (track : Track) (locks : Locks) (a b p : ℕ) (line : Line) → first_unlocked track locks a b p line ≡ None → legs_locked track locks a b p line ≡ true
all_locked track locks a b p [] h = refl
all_locked track locks a b p (leg ∷ line) h =
    by_leg (nat_lt (max a p) (min b (p + metres_of track leg.section))) (is_locked locks None leg) (first_unlocked track locks a b (p + metres_of track leg.section) line) h
    (all_locked track locks a b (p + metres_of track leg.section) line)
  where
    by_leg : (held locked : Bool) (rest : Option ℕ) {later : Bool} → cond (held && not locked) (Some leg.section) rest ≡ None → (rest ≡ None → later ≡ true) → ((not held || locked) && later) ≡ true
    by_leg true true rest h all = all h
    by_leg true false rest h all = absurd (let never : ⊥ = cc in never)
    by_leg false locked rest h all = all h

-- and the other way
pub none_unlocked : (track : Track) (locks : Locks) (a b p : ℕ) (line : Line) → legs_locked track locks a b p line ≡ true → first_unlocked track locks a b p line ≡ None
none_unlocked track locks a b p [] h = refl
none_unlocked track locks a b p (leg ∷ line) h =
    by_leg (nat_lt (max a p) (min b (p + metres_of track leg.section))) (is_locked locks None leg) (legs_locked track locks a b (p + metres_of track leg.section) line) h
    (none_unlocked track locks a b (p + metres_of track leg.section) line)
  where
    by_leg : (held locked later : Bool) {rest : Option ℕ} → ((not held || locked) && later) ≡ true → (later ≡ true → rest ≡ None) → cond (held && not locked) (Some leg.section) rest ≡ None
    by_leg true true later h all = all h
    by_leg true false later h all = absurd (let never : ⊥ = cc in never)
    by_leg false locked later h all = all h

-- ---- no other train holds a metre of it

none_sharing : (track : Track) (trains : List Train) (train : Train) (section : ℕ) → first_sharing track trains train section ≡ None → find (hold_both track section train) trains ≡ None
none_sharing track trains train section h = by_found (find (hold_both track section train) trains) h
  where
    by_found : (o : Option Train) → option_map (λ (other : Train). other.report.train) o ≡ None → o ≡ None
    by_found None e = refl
    by_found (Some other) e = absurd (let never : ⊥ = cc in never)

first_none : (a : Option ℕ) (b : Option (ℕ × ℕ)) (section : ℕ) → option_or (option_map (λ other. (other, section)) a) b ≡ None → (a ≡ None) × (b ≡ None)
first_none None b section h = (refl, h)
first_none (Some other) b section h = absurd (let never : ⊥ = cc in never)

each_false : (trains : List Train) → AllByRecursion (λ (other : Train). false ≡ false) trains
each_false [] = tt
each_false (other ∷ trains) = (refl, each_false trains)

either_false : (a b : Bool) → a ≡ false → b ≡ false → (a || b) ≡ false
either_false false b e f = f
either_false true b e f = absurd (let never : ⊥ = cc in never)

none_shared : (track : Track) (trains : List Train) (train : Train) (line : Line) → first_shared track trains train line ≡ None
    → AllByRecursion (λ other. list_any (λ leg. hold_both track leg.section train other) line ≡ false) trains
none_shared track trains train [] h = each_false trains
none_shared track trains train (leg ∷ line) h =
    let parts = first_none (first_sharing track trains train leg.section) (first_shared track trains train line) leg.section h in
    each_both (λ other. hold_both track leg.section train other ≡ false) (λ other. list_any (λ leg. hold_both track leg.section train other) line ≡ false)
    (λ other. list_any (λ leg. hold_both track leg.section train other) (leg ∷ line) ≡ false) trains
    (λ other e f. either_false (hold_both track leg.section train other) (list_any (λ leg. hold_both track leg.section train other) line) e f)
    (find-none (hold_both track leg.section train) trains (none_sharing track trains train leg.section parts.0))
    (none_shared track trains train line parts.1)

-- ---- the scene with the train

fault_none : (a : Option ℕ) (b : Option (ℕ × ℕ)) (train : ℕ) → option_or (option_map (NotLocked train) a) (option_map (λ both. HeldTwice train both.0 both.1) b) ≡ None → (a ≡ None) × (b ≡ None)
fault_none None None train h = (refl, refl)
fault_none None (Some both) train h = absurd (let never : ⊥ = cc in never)
fault_none (Some section) b train h = absurd (let never : ⊥ = cc in never)

module _ (track : Track) (scene : Scene) (train : Train) (may : held_fault track scene train ≡ None) where
  parts : (first_unlocked track scene.locks train.from train.to 0 train.line ≡ None) × (first_shared track scene.trains train train.line ≡ None)
  parts = fault_none (first_unlocked track scene.locks train.from train.to 0 train.line) (first_shared track scene.trains train train.line) train.report.train may

  apart : AllByRecursion (λ other. (metre : Metre) → IsMetreOf track metre → IsTrue (authority_has track metre train) → IsTrue (authority_has track metre other) → ⊥) scene.trains
  apart =
      each_weaker (λ other. share_metre track train other ≡ false)
      (λ other. (metre : Metre) → IsMetreOf track metre → IsTrue (authority_has track metre train) → IsTrue (authority_has track metre other) → ⊥) scene.trains
      (λ other none. pair_apart track train other none) (none_shared track scene.trains train train.line parts.1)

  pub good_with_held : IsGoodScene track scene → IsGoodTrain track train → IsGoodScene track (with_train scene train)
  good_with_held good stands =
      good_with_train track scene train good stands ((held_locked_by_legs track scene.locks train).0 (all_locked track scene.locks train.from train.to 0 train.line parts.0))
      (each_weaker (λ other. (metre : Metre) → IsMetreOf track metre → IsTrue (authority_has track metre train) → IsTrue (authority_has track metre other) → ⊥)
      (λ other. (other.report.train == train.report.train) ≡ false → (metre : Metre) → IsMetreOf track metre → IsTrue (authority_has track metre train) → IsTrue (authority_has track metre other) → ⊥) scene.trains
      (λ other h unlike. h) apart)

-- how many trains there are then
pub count_with : (scene : Scene) (train : Train) → IsNew scene train.report → length (with_train scene train).trains ≤ MOST_TRAINS
count_with scene train new = by_known (is_some (train_numbered scene train.report.train)) (ap is_some new.new)
  where
    known : List Train
    known = map (λ (other : Train). cond (other.report.train == train.report.train) train other) scene.trains

    by_known : (t : Bool) → t ≡ false → length (cond t known (scene.trains ++ train ∷ [])) ≤ MOST_TRAINS
    by_known true e = absurd (let never : ⊥ = cc in never)
    by_known false e = let few = new.few in let more = length-append scene.trains (train ∷ []) in omega (arith, few, more)
