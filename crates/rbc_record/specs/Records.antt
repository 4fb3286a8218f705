-- Histories together with their track, and what a record keeps of them.
use Rattle.std.specs.Prelude.{◌≡◌, ◌≤◌, ℕ, Bool, List, [], ◌∷◌, ◌++◌, length}
use Rattle.rbc_model.specs.declared.limits.TheConstants.{MOST_ENTRIES}
use Rattle.rbc_model.specs.Tracks.{Track}
use Rattle.rbc_model.specs.SoundTracks.{IsInForm, IsSound}
use Rattle.rbc_model.specs.Scenes.{Scene}
use Rattle.rbc_model.specs.Histories.{Beginning, Entry, IsLegal, replay, is_full as has_most_entries}
use Rattle.rbc_scene_laws.specs.Good.{IsGoodScene}
use Rattle.rbc_grant.specs.ScenesOnTracks.{SceneOnTrack}

-- a history, the track that it is of, the scene that it begins with, and how many entries it may have
pub record HistoryOnTrack : Type 0 where
  pub track : Track
  pub begin : Scene
  pub most : ℕ
  pub entries : List Entry

-- where a history begins
abbrev pub begin_on : Track → Scene → ℕ → Beginning
begin_on track scene most = record { track = track; scene = scene; most = most }

abbrev pub begin_of : HistoryOnTrack → Beginning
begin_of history = begin_on history.track history.begin history.most

-- the history of these entries
abbrev pub history_on : Beginning → List Entry → HistoryOnTrack
history_on begin entries = record { track = begin.track; begin = begin.scene; most = begin.most; entries = entries }

-- the scene that the history leads to
abbrev pub scene_now : HistoryOnTrack → Scene
scene_now history = replay (begin_of history) history.entries

-- whether no entry may be added
abbrev pub is_full : HistoryOnTrack → Bool
is_full history = has_most_entries (begin_of history) history.entries

-- the history with one entry more
abbrev pub with_entry : HistoryOnTrack → Entry → HistoryOnTrack
with_entry history entry = history_on (begin_of history) (history.entries ++ entry ∷ [])

-- The history is one that a record can have: it begins with a good scene, may have 50,000,000 entries at most, and is legal.
pub record IsRight (history : HistoryOnTrack) : Type 0 where
  pub good : IsGoodScene history.track history.begin
  pub bounded : history.most ≤ MOST_ENTRIES
  pub legal : IsLegal (begin_of history) history.entries

-- What a record keeps: its track is in form and sound, it begins with a good scene, its history is legal and no longer than it may be, and its scene
-- is where the history leads.
pub record IsKept (scene : SceneOnTrack) (begin : Scene) (most : ℕ) (entries : List Entry) : Type 0 where
  pub form : IsInForm scene.track
  pub sound : IsSound scene.track
  pub right : IsRight (history_on (begin_on scene.track begin most) entries)
  pub replayed : scene.scene ≡ replay (begin_on scene.track begin most) entries
  pub few : length entries ≤ most
