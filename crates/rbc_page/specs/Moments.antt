-- What is told of histories. All that this crate says of them stands here.
use Rattle.std.specs.Prelude.{◌≡◌, ◌⊎◌, ℕ, if◌then◌else◌, List, [], length}
use Rattle.rbc_model.specs.SceneLines.{scene_lines}
use Rattle.rbc_desk.specs.Records.{HistoryOnTrack, scene_now}
use Rattle.rbc_page.specs.declared.asked.Asked.{Asked}
use Rattle.rbc_page.specs.declared.exchange.Stage.TheVariants.{Waits}
use Rattle.rbc_page.specs.Answers.{Shown, answer_with, is_told_lines}
use Rattle.rbc_page.specs.Exchanges.{Exchanged, IsTurnedAway, telling}
use Rattle.rbc_page.specs.Histories.{lines_from}

-- how many entries there are
abbrev pub version_of : HistoryOnTrack → ℕ
version_of history = length history.entries

-- the lines of the scene that a history leads to
unfoldable pub scene_text : HistoryOnTrack → List ℕ
scene_text history = scene_lines history.track (version_of history) (scene_now history)

-- the lines of the history that a request asks for; none for other pages, or where the client has this version
abbrev pub told_lines : Asked → HistoryOnTrack → List ℕ
told_lines asked history = if is_told_lines asked.page asked.known (version_of history) then lines_from history asked.from else []

-- what does not change while a centre stays, and what was counted: the viewer, the lines of the track, and the numbers
pub record Standing : Type 0 where
  pub viewer : List ℕ
  pub track : List ℕ
  pub metrics : List ℕ

-- what there is to be shown to a request at this moment of the history
abbrev pub shown_at : Standing → Asked → HistoryOnTrack → Shown
shown_at standing asked history = record { viewer = standing.viewer; track = standing.track; scene = scene_text history; history = told_lines asked history; metrics = standing.metrics }

-- The answer to a request, head included, of a centre that has begun so, at this moment of its history.
abbrev pub answer_to : List ℕ → Standing → Asked → HistoryOnTrack → List ℕ
answer_to start standing asked history = answer_with start asked (shown_at standing asked history) (version_of history)

-- What comes of a request that waits: it waits on, it is turned away, or it is answered at this moment of the history.
abbrev pub IsAnsweredAt : List ℕ → Standing → HistoryOnTrack → Exchanged → Exchanged → Type 0
IsAnsweredAt start standing told old new =
    IsTurnedAway start old new ⊎ ((asked : Asked) × (old.stage ≡ Waits asked) × (new ≡ telling asked.stays (answer_to start standing asked told)))

-- It is answered by a centre with this viewer and this track, whatever was counted, or it is turned away.
abbrev pub IsServedAt : List ℕ → List ℕ → List ℕ → HistoryOnTrack → Exchanged → Exchanged → Type 0
IsServedAt start viewer track told old new =
    IsTurnedAway start old new ⊎ ((metrics : List ℕ) × IsAnsweredAt start (record { viewer = viewer; track = track; metrics = metrics }) told old new)
