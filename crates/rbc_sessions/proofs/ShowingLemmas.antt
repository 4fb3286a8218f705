-- What is asked to be shown, as the replies have it.
use Rattle.std.proofs.Common.{◌≡◌, ℕ, List, [], ◌∷◌, length, None, Ok, inl, inr, refl, ap, ◌∙◌, codes}
use Rattle.std.specs.Prelude.{◌⊎◌, decimal}
use Rattle.rbc_model.specs.declared.sessions.Inquiry.{Inquiry}
use Rattle.rbc_model.specs.declared.sessions.Inquiry.TheVariants.{State as AskedState, Scene as AskedScene}
use Rattle.rbc_model.specs.SceneLines.{scene_lines}
use Rattle.rbc_model.specs.SessionReply.{Memory, refused_reply}
use Rattle.rbc_model.specs.Tracks.{Track}
use Rattle.rbc_model.specs.Words.{line_of}
use Rattle.rbc_session_laws.specs.declared.command.Command.TheVariants.{Show}
use Rattle.rbc_session_laws.specs.Turns.{AnswersInquiry}
use Rattle.rbc_sweep.specs.Later.{IsLater, scene_of}
use Rattle.rbc_sweep.specs.Records.{begin_of, HistoryOnTrack, scene_now}
use Rattle.rbc_lines.specs.ScenesOnTracks.{SceneOnTrack}
use Rattle.rbc_sweep.specs.State.{State}
use Rattle.rbc_sweep.specs.States.{state_of}
use Rattle.rbc_sweep.specs.Seats.{Seated}
use Rattle.rbc_sessions.specs.SeatChanges.{SeatReplies}
use Rattle.rbc_sessions.proofs.TellingLemmas.{nothing_added}

-- the line of a state
abbrev pub state_line : State → List ℕ
state_line state = line_of (codes "state" ∷ decimal state.version ∷ decimal state.trains ∷ decimal state.locked ∷ [])

module _ (history : HistoryOnTrack) where
  pub state_shown : (state : State) → state ≡ state_of history → AnswersInquiry (begin_of history) history.entries (state_line state) None AskedState
  state_shown state is = (ap state_line is, refl)

  pub scene_shown : (scene : SceneOnTrack) (version : ℕ) (reply : List ℕ) → scene ≡ scene_of history → version ≡ length history.entries
      → (reply ≡ scene_lines scene.track version scene.scene) ⊎ (reply ≡ refused_reply scene.track Memory) → AnswersInquiry (begin_of history) history.entries reply None AskedScene
  scene_shown scene version reply is at (inl e) =
      inl (e ∙ ap (λ (s : SceneOnTrack). scene_lines s.track version s.scene) is ∙ ap (λ v. scene_lines history.track v (scene_now history)) at, refl)
  scene_shown scene version reply is at (inr e) = inr (e ∙ ap (λ (s : SceneOnTrack). refused_reply s.track Memory) is, refl)

  pub scene_refused : (track : Track) → track ≡ history.track → AnswersInquiry (begin_of history) history.entries (refused_reply track Memory) None AskedScene
  scene_refused track is = inr (ap (λ t. refused_reply t Memory) is, refl)

-- what was asked for is shown from a seat
pub shown_replied : (inquiry : Inquiry) (reply : List ℕ) (before after : Seated) → IsLater before.told after.told → AnswersInquiry (begin_of after.told) after.told.entries reply None inquiry
    → after.receipts ≡ before.receipts → SeatReplies (Ok (Show inquiry)) before reply after
shown_replied inquiry reply before after later answers receipts =
    (record { before = after.told; later = later; answered = answers; next = tt; told = nothing_added after.told }, receipts)
