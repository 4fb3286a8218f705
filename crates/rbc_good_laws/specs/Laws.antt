-- What the tests by sections and legs tell.
use Rattle.std.specs.Prelude.{◌≡◌, ◌↔◌, ℕ, false, ◌≤◌, ◌<◌, IsTrue, AllPairs, List, fold, Some, None, Ok}
use Rattle.std.specs.Bool.{Decides}
use Rattle.rbc_model.specs.declared.places.Leg.{Leg}
use Rattle.rbc_model.specs.declared.tracks.Lock.{Lock}
use Rattle.rbc_model.specs.Tracks.{Track}
use Rattle.rbc_model.specs.Lines.{leg_at}
use Rattle.rbc_model.specs.Locks.{Locks, row, next}
use Rattle.rbc_model.specs.Trains.{Train}
use Rattle.rbc_model.specs.declared.reports.Event.{Event}
use Rattle.rbc_model.specs.SoundTracks.{IsSound}
use Rattle.rbc_model.specs.Events.{step}
use Rattle.rbc_model.specs.Scenes.{Scene, empty_scene}
use Rattle.rbc_model.specs.Obstacles.{is_locked}
use Rattle.rbc_model.specs.Histories.{AuthoritiesAreApart, Entry, scene_after}
use Rattle.rbc_scene_laws.specs.Good.{OneRowBehindEach, IsGoodScene}
use Rattle.rbc_good_laws.specs.Good.{is_good_scene}
use Rattle.rbc_good_laws.specs.Told.{IsToldScene, is_told_scene, StandsAsTold, stands_as_told}
use Rattle.rbc_good_laws.specs.Tests.{share_metre, legs_locked}

-- no metre stands in two authorities exactly where no two trains share one on a section of the first one's line
abbrev pub AuthoritiesAreApartBySections : Type 0
AuthoritiesAreApartBySections = (track : Track) (scene : Scene) → AuthoritiesAreApart track scene ↔ AllPairs (λ a b. share_metre track a b ≡ false) scene.trains

-- each metre of an authority is locked in the direction of its leg exactly where each leg with one of its places is
abbrev pub HeldAreLockedByLegs : Type 0
HeldAreLockedByLegs = (track : Track) (locks : Locks) (train : Train) → Decides (legs_locked track locks train.from train.to 0 train.line)
    ((i : ℕ) (leg : Leg) → train.from ≤ i → i < train.to → leg_at track train.line i ≡ Some leg → IsTrue (is_locked locks None leg))

-- no leg stands before two rows exactly where each section with a leg before it is the one that is found behind that leg
abbrev pub RowsAreBehindByNext : Type 0
RowsAreBehindByNext = (locks : Locks) →
    OneRowBehindEach locks
    ↔ ((section : ℕ) (lock : Lock) (before : Leg) → row locks section ≡ Some lock → lock.before ≡ Some before
    → next locks before ≡ Some (record { section = section; direction = lock.direction }))

-- the test of a scene tells exactly whether it is a good one
abbrev pub GoodScenesAreDecided : Type 0
GoodScenesAreDecided = (track : Track) (scene : Scene) → Decides (is_good_scene track scene) (IsGoodScene track scene)

-- the test of a train tells exactly whether it stands where its last report tells
abbrev pub ToldTrainsAreDecided : Type 0
ToldTrainsAreDecided = (track : Track) (train : Train) → Decides (stands_as_told track train) (StandsAsTold track train)

-- the test of a scene tells exactly whether it is as what was told leaves it
abbrev pub ToldScenesAreDecided : Type 0
ToldScenesAreDecided = (track : Track) (scene : Scene) → Decides (is_told_scene track scene) (IsToldScene track scene)

-- an accepted event leaves it so
abbrev pub ScenesStayTold : Type 0
ScenesStayTold = (track : Track) (scene after : Scene) (event : Event) → IsSound track → step track scene event ≡ Ok after → IsGoodScene track scene → IsToldScene track scene → IsToldScene track after

-- and so is the empty scene
abbrev pub EmptyScenesAreTold : Type 0
EmptyScenesAreTold = (track : Track) → IsToldScene track (empty_scene track)

-- So each scene that entries lead to, from a good one on that is as what was told leaves it, passes both tests: it may be the beginning of another history.
abbrev pub HistoriesLeadToScenesThatPass : Type 0
HistoriesLeadToScenesThatPass = (track : Track) (scene : Scene) (entries : List Entry) → IsSound track → IsGoodScene track scene → IsToldScene track scene
    → IsTrue (is_good_scene track (fold (scene_after track) scene entries)) × IsTrue (is_told_scene track (fold (scene_after track) scene entries))
