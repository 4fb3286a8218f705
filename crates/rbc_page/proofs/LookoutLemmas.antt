-- What a lookout keeps of the history that it was told.
use Rattle.std.proofs.Common.{◌≡◌, ℕ, List, length, ◌∙◌}
use Rattle.rbc_model.specs.SceneLines.{scene_lines}
use Rattle.rbc_desk.specs.Later.{scene_of}
use Rattle.rbc_desk.specs.Records.{HistoryOnTrack}
use Rattle.rbc_desk.specs.States.{state_at, state_of}
use Rattle.rbc_desk.specs.declared.state.State.{State}
use Rattle.rbc_lines.specs.ScenesOnTracks.{SceneOnTrack}
use Rattle.rbc_page.specs.Moments.{scene_text}

-- the lines of its scene
pub of_scene : (told : HistoryOnTrack) (scene : SceneOnTrack) (version : ℕ) (text : List ℕ) → scene ≡ scene_of told → version ≡ length told.entries
    → text ≡ scene_lines scene.track version scene.scene → text ≡ scene_text told
unfolding scene_text
of_scene told scene version text same many is = is ∙ (λ j. scene_lines (same j).track (many j) (same j).scene)

-- the state of the centre in that scene
pub state_of_scene : (told : HistoryOnTrack) (scene : SceneOnTrack) (version : ℕ) (state : State) → scene ≡ scene_of told → version ≡ length told.entries
    → state ≡ state_at version scene.scene → state ≡ state_of told
state_of_scene told scene version state same many is = is ∙ (λ j. state_at (many j) (same j).scene)
