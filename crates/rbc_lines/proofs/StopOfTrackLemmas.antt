-- What stands at a train's reach, and what a row is behind, are of the track.
use Rattle.std.proofs.Common.{◌≡◌, ℕ, ◌<◌, List, [], ◌∷◌, length, Option, Some, None, refl, sym}
use Rattle.std.specs.Prelude.{IfSome, IsTrue}
use Rattle.std.specs.List.{AllByRecursion}
use Rattle.rbc_model.specs.declared.refusals.Obstacle.{Obstacle}
use Rattle.rbc_model.specs.declared.refusals.Obstacle.TheVariants.{NoLink, NotLocked, Own, Occupied, Held, Limit}
use Rattle.rbc_model.specs.declared.places.Leg.{Leg}
use Rattle.rbc_model.specs.declared.tracks.Lock.{Lock}
use Rattle.rbc_model.specs.SoundTracks.{IsSound}
use Rattle.rbc_model.specs.Tracks.{Track, is_linked}
use Rattle.rbc_model.specs.Locks.{Locks, row}
use Rattle.rbc_model.specs.Trains.{Train}
use Rattle.rbc_model.specs.Scenes.{Scene}
use Rattle.rbc_model.specs.Views.{stop}
use Rattle.rbc_scene_laws.specs.Good.{IsGoodLocks, IsGoodScene, IsGoodTrain}
use Rattle.rbc_scene_laws.proofs.LengtheningLemmas.{linked_from_below}
use Rattle.rbc_scene_laws.proofs.NamedStopLemmas.{IsNameable, named_stop}
use Rattle.rbc_replies.specs.Replies.{ObstacleIsOfTrack}

-- any train may be named
anyone : (trains : List Train) → AllByRecursion (λ _. Unit {0}) trains
anyone [] = tt
anyone (train ∷ trains) = (tt, anyone trains)

of_track : (track : Track) (obstacle : Obstacle) → IsNameable track (λ _. Unit {0}) obstacle → ObstacleIsOfTrack track obstacle
of_track track (NoLink leg) named = named
of_track track (NotLocked section) named = named
of_track track Own named = tt
of_track track (Occupied train) named = tt
of_track track (Held train) named = tt
of_track track Limit named = tt

pub stop_of_track : (track : Track) (scene : Scene) (train : Train) → IsGoodScene track scene → IsGoodTrain track train → ObstacleIsOfTrack track (stop track scene train)
stop_of_track track scene train good well = of_track track (stop track scene train) (named_stop track (λ _. Unit {0}) scene train good well (anyone scene.trains))

-- the leg before a locked one is the track's
leg_before : (track : Track) (section : ℕ) (lock : Lock) (before : Option Leg) → IsSound track → lock.before ≡ before
    → ((b : Leg) → lock.before ≡ Some b → IsTrue (is_linked track b (record { section = section; direction = lock.direction })))
    → IfSome before (λ (leg : Leg). leg.section < length track.sections)
leg_before track section lock None sound e linked = tt
leg_before track section lock (Some leg) sound e linked = linked_from_below track leg (record { section = section; direction = lock.direction }) sound (linked leg e)

pub before_of_track : (track : Track) (locks : Locks) (section : ℕ) (found : Option Lock) → IsSound track → IsGoodLocks track locks → found ≡ row locks section
    → IfSome found (λ (lock : Lock). IfSome lock.before (λ (leg : Leg). leg.section < length track.sections))
before_of_track track locks section None sound good e = tt
before_of_track track locks section (Some lock) sound good e = leg_before track section lock lock.before sound refl (λ b behind. good.linked section lock b (sym e) behind)
