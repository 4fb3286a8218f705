-- What scenes and histories keep, on every sound track.
use Rattle.std.specs.Prelude.{◌≡◌, ◌↔◌, ℕ, List, ◌++◌, Ok}
use Rattle.rbc_model.specs.declared.reports.Event.{Event}
use Rattle.rbc_model.specs.Tracks.{Track}
use Rattle.rbc_model.specs.SoundTracks.{IsSound}
use Rattle.rbc_model.specs.Scenes.{Scene, empty_scene}
use Rattle.rbc_model.specs.Events.{step}
use Rattle.rbc_model.specs.Histories.{Beginning, Entry, IsLegal, IsBestHistory, replay}
use Rattle.rbc_scene_laws.specs.Good.{IsGoodScene}

-- an accepted event keeps a scene good: places on lines, authorities apart and locked
abbrev pub ScenesStayGood : Type 0
ScenesStayGood = (track : Track) (scene after : Scene) (event : Event) → IsSound track → step track scene event ≡ Ok after → IsGoodScene track scene → IsGoodScene track after

-- nothing locked and no train: a good scene, on any track
abbrev pub EmptyScenesAreGood : Type 0
EmptyScenesAreGood = (track : Track) → IsGoodScene track (empty_scene track)

-- a legal history that begins with a good scene is a best one: each grant is the best for its train at its moment, and no metre is ever held twice
abbrev pub LegalHistoriesAreBest : Type 0
LegalHistoriesAreBest = (begin : Beginning) (entries : List Entry) → IsSound begin.track → IsGoodScene begin.track begin.scene → IsLegal begin entries → IsBestHistory begin entries

-- and each of its scenes is good, so it may be the beginning of another
abbrev pub HistoriesLeadToGoodScenes : Type 0
HistoriesLeadToGoodScenes = (begin : Beginning) (entries : List Entry) → IsSound begin.track → IsGoodScene begin.track begin.scene → IsGoodScene begin.track (replay begin entries)

-- A history that goes on from where another led, however many entries it may have, is the two in one: what is legal there was legal behind the first.
abbrev pub HistoriesJoin : Type 0
HistoriesJoin = (begin : Beginning) (most : ℕ) (entries more : List Entry) → IsLegal begin entries
    → (IsLegal (record { track = begin.track; scene = replay begin entries; most = most }) more ↔ IsLegal begin (entries ++ more))
