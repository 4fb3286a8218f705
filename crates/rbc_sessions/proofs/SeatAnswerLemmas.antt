-- The turns of a session at a desk are answered as the function says that computes the answers.
use Rattle.std.proofs.Common.{◌≡◌, ◌≢◌, Bool, true, false, List, [], ◌∷◌, Option, None, Result, Ok, Err, ◌⊎◌, inl, inr, refl, sym, ap, ◌∙◌, subst, append-nil}
use Rattle.std.specs.Prelude.{bytes_eq}
use Rattle.std.proofs.lemmas.Slice.Eq.{bytes_eq-Decides}
use Rattle.rbc_model.specs.SoundTracks.{IsInForm}
use Rattle.rbc_model.specs.Histories.{Beginning, Entry}
use Rattle.rbc_model.specs.SessionReply.{SessionRefusal, Memory, refused_reply}
use Rattle.rbc_sweep.specs.Later.{IsLater}
use Rattle.rbc_sweep.specs.Records.{begin_of, HistoryOnTrack, history_on}
use Rattle.rbc_session_laws.specs.declared.command.Command.{Command}
use Rattle.rbc_session_laws.specs.declared.command.Command.TheVariants.{Nothing, Event, Authority, Show}
use Rattle.rbc_session_laws.specs.Commands.{command_in}
use Rattle.rbc_session_laws.specs.Turns.{AnswersLine, AnswersCommand, AnswersEvent, AnswersAuthority, AnswersInquiry}
use Rattle.rbc_session_laws.proofs.LineLemmas.{lines_are_answered}
use Rattle.rbc_sessions.specs.Changes.{with_added}
use Rattle.rbc_sessions.specs.SeatAnswers.{IsLineAnswer, AreLineAnswers}
use Rattle.rbc_sessions.specs.SeatSessions.{SeatTurn, AreInTurn}
use Rattle.rbc_sessions.specs.SeatTurns.{AnswersCommandAtDesk, IsAnsweredSince, entry_in, IsNext}
use Rattle.rbc_sessions.proofs.SeatSessionLemmas.{turn_track}

module _ (begun : HistoryOnTrack) (turn : SeatTurn) (form : IsInForm begun.track) where
  -- a right answer to the line after this history is the one that is computed
  computed : (before : HistoryOnTrack) → (before ≡ begun) ⊎ IsLater begun before → before.track ≡ begun.track
      → AnswersLine (begin_of before) before.entries turn.line turn.reply (entry_in turn.receipt) → IsNext before.entries turn.receipt → turn.told ≡ with_added before (entry_in turn.receipt)
      → turn.reply ≢ refused_reply begun.track Memory → IsLineAnswer begun turn
  computed before since same answers next told kept =
      let answer = lines_are_answered (begin_of before) before.entries turn.line turn.reply (entry_in turn.receipt) (subst IsInForm (sym same) form) answers
      (subst (λ t. turn.reply ≢ refused_reply t Memory) (sym same) kept) in
      record { before = before; since = since; reply = answer.0; added = answer.1; next = next; told = told }

  -- nothing was entered
  idle : (command : Result Command SessionRefusal) → command_in begun.track turn.line ≡ command → AnswersCommand (begin_of begun) begun.entries turn.reply None command
      → turn.receipt ≡ None → turn.told ≡ begun → turn.reply ≢ refused_reply begun.track Memory → IsLineAnswer begun turn
  idle command e answers none same kept =
      computed begun (inl refl) refl
      (subst (λ d. AnswersCommand (begin_of begun) begun.entries turn.reply (entry_in turn.receipt) d) (sym e)
      (subst (λ r. AnswersCommand (begin_of begun) begun.entries turn.reply (entry_in r) command) (sym none) answers))
      (subst (IsNext begun.entries) (sym none) tt)
      (same ∙ sym (ap (history_on (begin_of begun)) (append-nil begun.entries)) ∙ ap (λ r. with_added begun (entry_in r)) (sym none))
      kept

  -- it was answered after a later history
  since : (Answers : Beginning → List Entry → Option Entry → Type 0) (answered : IsAnsweredSince Answers begun turn.told turn.receipt) (command : Result Command SessionRefusal)
      → command_in begun.track turn.line ≡ command → AnswersCommand (begin_of answered.before) answered.before.entries turn.reply (entry_in turn.receipt) command
      → turn.reply ≢ refused_reply begun.track Memory → IsLineAnswer begun turn
  since Answers answered command e answers kept =
      let before = answered.before in
      let later = answered.later in
      computed before (inr later) later.track
      (subst (λ d. AnswersCommand (begin_of before) before.entries turn.reply (entry_in turn.receipt) d) (sym (ap (λ t. command_in t turn.line) later.track ∙ e)) answers)
      answered.next answered.told kept

  commanded : (command : Result Command SessionRefusal) → command_in begun.track turn.line ≡ command → AnswersCommandAtDesk begun turn.told turn.reply turn.receipt command
      → turn.reply ≢ refused_reply begun.track Memory → IsLineAnswer begun turn
  commanded (Ok Nothing) e (said, (none, same)) kept = idle (Ok Nothing) e (said, refl) none same kept
  commanded (Ok (Event told)) e answered kept =
      since (λ begin entries added. AnswersEvent begin entries turn.reply added told) answered (Ok (Event told)) e answered.answered kept
  commanded (Ok (Authority train)) e answered kept =
      since (λ begin entries added. AnswersAuthority begin entries turn.reply added train) answered (Ok (Authority train)) e answered.answered kept
  commanded (Ok (Show inquiry)) e answered kept =
      since (λ begin entries added. AnswersInquiry begin entries turn.reply added inquiry) answered (Ok (Show inquiry)) e answered.answered kept
  commanded (Err refusal) e (said, (none, same)) kept = idle (Err refusal) e (said, refl) none same kept

  answered_so : AnswersCommandAtDesk begun turn.told turn.reply turn.receipt (command_in begun.track turn.line) → (turn.reply ≡ refused_reply begun.track Memory) ⊎ IsLineAnswer begun turn
  answered_so right = by_memory (bytes_eq turn.reply (refused_reply begun.track Memory)) refl
    where
      by_memory : (b : Bool) → bytes_eq turn.reply (refused_reply begun.track Memory) ≡ b → (turn.reply ≡ refused_reply begun.track Memory) ⊎ IsLineAnswer begun turn
      by_memory true e = inl ((bytes_eq-Decides turn.reply (refused_reply begun.track Memory)).0 e)
      by_memory false e = inr (commanded (command_in begun.track turn.line) refl right (λ same. kept ((bytes_eq-Decides turn.reply (refused_reply begun.track Memory)).1 same) e))
        where
          kept : {b : Bool} → b ≡ true → b ≡ false → ⊥
          kept so not_so = cc

-- each turn, one after the other
pub turns_are_answers : (begun last : HistoryOnTrack) (turns : List SeatTurn) → IsInForm begun.track → AreInTurn begun turns last → AreLineAnswers begun turns
turns_are_answers begun last [] form same = tt
turns_are_answers begun last (turn ∷ turns) form (first, more) = (
  answered_so begun turn form first,
  turns_are_answers turn.told last turns (subst IsInForm (sym (turn_track begun turn.told turn.reply turn.receipt (command_in begun.track turn.line) first)) form) more,
)
