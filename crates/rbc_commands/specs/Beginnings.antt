-- What a centre that has a journal begins with, and which scene the journal leads to.
use Rattle.std.specs.Prelude.{◌≡◌, ℕ, List, [], ◌∷◌, length, Ok}
use Rattle.rbc_journal.specs.Beginnings.{beginning_of, joined}
use Rattle.rbc_journal.specs.Gates.{counted}
use Rattle.rbc_journal.specs.Journal.{told_of}
use Rattle.rbc_model.specs.SceneLines.{scene_lines}
use Rattle.rbc_model.specs.Sessions.{lines_of}
use Rattle.rbc_model.specs.Scenes.{Scene, empty_scene}
use Rattle.rbc_model.specs.Tracks.{Track}
use Rattle.rbc_scene_reading.specs.Reading.{read_scene}
use Rattle.rbc_show.specs.Adds.{Adds}
use Rattle.rbc_show.specs.Records.{HistoryOnTrack, begin_of, scene_now}
use Rattle.rbc_show.specs.Tells.{Tells}

-- a history of this track begins with the scene that the lines of a text tell, or with no trains and no locks where the text is empty
abbrev pub Begins : Track → List ℕ → Scene → Type 0
Begins track [] scene = scene ≡ empty_scene track
Begins track (byte ∷ bytes) scene = (version : ℕ) × (read_scene track (lines_of (byte ∷ bytes)) ≡ Ok (version, scene))

-- a history begins with the scene that the file of its journal begins with
abbrev pub BeginsAsFile : HistoryOnTrack → List ℕ → Type 0
BeginsAsFile history file = Begins history.track (joined (beginning_of (counted file))) history.begin

-- These bytes are the lines of the scene that the text of a journal leads to: its history begins as the journal does, and each line that the text tells adds an
-- entry to it.
pub record Closes (track : Track) (text bytes : List ℕ) : Type 0 where
  pub history : HistoryOnTrack
  pub on_track : history.track ≡ track
  pub begins : Begins track (joined (beginning_of (counted text))) history.begin
  pub told : Tells (Adds (begin_of history)) [] (told_of (counted text)) history.entries
  pub lines : bytes ≡ scene_lines track (length history.entries) (scene_now history)
