-- A session of the centre: the bytes of its reply to a line that asks to be shown the state of affairs. Nothing is entered for it.
use Rattle.std.specs.Prelude.{ℕ, is_some, List, [], ◌∷◌, filter, length, codes, decimal}
use Rattle.rbc_model.specs.declared.sessions.Inquiry.{Inquiry}
use Rattle.rbc_model.specs.declared.sessions.Inquiry.TheVariants.{State as AskedState, Scene as AskedScene}
use Rattle.rbc_model.specs.Words.{line_of}
use Rattle.rbc_model.specs.Tracks.{Track}
use Rattle.rbc_model.specs.Locks.{Locks}
use Rattle.rbc_model.specs.Scenes.{Scene}
use Rattle.rbc_model.specs.SceneLines.{scene_lines}

-- how many sections are locked
abbrev pub locked_count : Locks → ℕ
locked_count locks = length (filter is_some locks)

-- how far the history is: its version, how many trains there are, and how many sections are locked
abbrev pub state_reply : ℕ → Scene → List ℕ
state_reply version scene =
    line_of (codes "state" ∷ decimal version ∷ decimal (length scene.trains) ∷ decimal (locked_count scene.locks) ∷ [])

-- the reply to what is asked to be shown, where this is the version and that the scene
abbrev pub inquiry_reply : Track → ℕ → Scene → Inquiry → List ℕ
inquiry_reply track version scene AskedState = state_reply version scene
inquiry_reply track version scene AskedScene = scene_lines track version scene
