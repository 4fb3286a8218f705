-- A line has one answer, unless memory was refused in its treatment.
use Rattle.std.proofs.Common.{◌≡◌, ◌≢◌, ℕ, ◌+◌, Bool, true, false, cond, List, length, Option, Some, None, Result, Ok, Err, ◌⊎◌, inl, inr, refl, ap, sym, ◌∙◌}
use Rattle.std.specs.Prelude.{MatchBool, MatchResult, slice_index, ◌==◌}
use Rattle.std.proofs.lemmas.Bool.{eq-eqb}
use Rattle.rbc_model.specs.declared.refusals.Refusal.{Refusal}
use Rattle.rbc_model.specs.declared.refusals.ViewFault.{ViewFault}
use Rattle.rbc_model.specs.declared.refusals.ViewFault.TheVariants.{UnknownTrain, Blocked}
use Rattle.rbc_model.specs.declared.reports.Told.{Told}
use Rattle.rbc_model.specs.declared.sessions.Inquiry.TheVariants.{State as AskedState, Scene as AskedScene}
use Rattle.rbc_model.specs.declared.reports.Event.TheVariants.{Tell}
use Rattle.rbc_model.specs.SoundTracks.{IsInForm}
use Rattle.rbc_model.specs.Scenes.{Scene}
use Rattle.rbc_model.specs.Events.{step}
use Rattle.rbc_model.specs.Views.{View, view}
use Rattle.rbc_model.specs.Histories.{Beginning, Entry, Granted, Grants, is_full, replay}
use Rattle.rbc_model.specs.SessionReply.{SessionRefusal, BadEvent, Full, Memory, accepted_reply, grant_reply, refused_reply}
use Rattle.rbc_session_laws.specs.declared.command.Command.{Command}
use Rattle.rbc_session_laws.specs.declared.command.Command.TheVariants.{Nothing, Event, Authority, Show}
use Rattle.rbc_session_laws.specs.Commands.{command_in}
use Rattle.rbc_session_laws.specs.Turns.{IsRefused, IsGivenUp, IsToldInVain, IsAccepted, IsGranted, AnswersAsker, AnswersCommand, AnswersLine}
use Rattle.rbc_session_laws.specs.Answers.{Answer, refused, told_answer, grant_answer, asker_answer, command_answer, line_answer, grant_of, speed_prices_of, grade_prices_of}
use Rattle.rbc_session_laws.specs.Laws.{LinesAreAnswered}
use Rattle.rbc_session_laws.proofs.GrantLemmas.{grants_are_one}

module _ (begin : Beginning) (before : List Entry) (reply : List ℕ) (added : Option Entry) (form : IsInForm begin.track) (kept : reply ≢ refused_reply begin.track Memory) where
  abbrev Is : Answer → Type 0
  Is answer = (reply ≡ answer.reply) × (added ≡ answer.added)

  never : {X : Type 0} → IsGivenUp begin before reply added → X
  never h = absurd (kept h.0)

  told_by : (told : Told) (full : Bool) (after : Result Scene Refusal)
      → MatchBool full (IsRefused begin before reply added Full)
      (MatchResult after (λ _. IsAccepted begin before reply added told) (λ refusal. IsRefused begin before reply added (BadEvent refusal)) ⊎ IsToldInVain begin before reply added told)
      → Is (cond full (refused begin before Full) (told_answer begin before told after))
  told_by told true after h = h
  told_by told false (Ok after) (inl h) = h
  told_by told false (Err refusal) (inl h) = h
  told_by told false after (inr (h, needed)) = never h

  granted : (train : ℕ) (shown : View) → view begin.track (replay begin before) train ≡ Ok shown → IsGranted begin before reply added train shown → Is (grant_answer begin before shown)
  granted train shown e (grant, speed_rows, grade_rows, g, said, entry) =
      let one = grants_are_one begin.track (replay begin before) train shown grant speed_rows grade_rows form e g in (
        said ∙ same grant (grant_of shown) speed_rows (speed_prices_of shown) grade_rows (grade_prices_of shown) one.granted one.speeds one.grades,
        entry ∙ ap (λ g. Some (Granted g)) one.granted,
      )
    where
      same : (a b : Grants) (s t p q : List (List ℕ)) → a ≡ b → s ≡ t → p ≡ q → grant_reply begin.track (length before + 1) shown a s p ≡ grant_reply begin.track (length before + 1) shown b t q
      same a b s t p q e f h =
          ap (λ x. grant_reply begin.track (length before + 1) shown x s p) e
          ∙ ap (λ x. grant_reply begin.track (length before + 1) shown b x p) f
          ∙ ap (λ x. grant_reply begin.track (length before + 1) shown b t x) h

  asked_by : (train : ℕ) (shown : View) (full : Bool) → view begin.track (replay begin before) train ≡ Ok shown
      → MatchBool full (IsRefused begin before reply added Full) (IsGranted begin before reply added train shown)
      → Is (cond full (refused begin before Full) (grant_answer begin before shown))
  asked_by train shown true e h = h
  asked_by train shown false e h = granted train shown e h

  asker : (train : ℕ) (seen : Result View ViewFault) → view begin.track (replay begin before) train ≡ seen → AnswersAsker begin before reply added train seen → Is (asker_answer begin before train seen)
  asker train (Ok shown) e (inl h) = asked_by train shown (is_full begin before) e h
  asker train (Ok shown) e (inr h) = never h
  asker train (Err (Blocked obstacle at)) e (inl h) = h
  asker train (Err (Blocked obstacle at)) e (inr h) = never h
  asker train (Err UnknownTrain) e h = h

  commanded : (command : Result Command SessionRefusal) → AnswersCommand begin before reply added command → Is (command_answer begin before command)
  commanded (Ok Nothing) h = h
  commanded (Ok (Event told)) h = told_by told (is_full begin before) (step begin.track (replay begin before) (Tell told)) h
  commanded (Ok (Authority train)) h = asker train (view begin.track (replay begin before) train) refl h
  commanded (Ok (Show AskedState)) h = h
  commanded (Ok (Show AskedScene)) (inl h) = h
  commanded (Ok (Show AskedScene)) (inr h) = never h
  commanded (Err refusal) h = h

pub lines_are_answered : LinesAreAnswered
unfolding line_answer
lines_are_answered begin before line reply added form answers kept = commanded begin before reply added form kept (command_in begin.track line) answers

-- ---- what memory was refused for adds nothing

different : (xs ys : List ℕ) → (slice_index xs 0 == slice_index ys 0) ≡ false → xs ≡ ys → ⊥
different xs ys differ e = let same = eq-eqb (slice_index xs 0) (slice_index ys 0) (ap (λ (l : List ℕ). slice_index l 0) e) in cc

module _ (begin : Beginning) (before : List Entry) (reply : List ℕ) (added : Option Entry) (lost : reply ≡ refused_reply begin.track Memory) where
  none_told : (told : Told) (full : Bool) (after : Result Scene Refusal)
      → MatchBool full (IsRefused begin before reply added Full)
      (MatchResult after (λ _. IsAccepted begin before reply added told) (λ refusal. IsRefused begin before reply added (BadEvent refusal)) ⊎ IsToldInVain begin before reply added told)
      → added ≡ None
  none_told told true after h = h.1
  none_told told false (Ok after) (inl h) = absurd (different (accepted_reply (length before + 1)) (refused_reply begin.track Memory) refl (sym h.0 ∙ lost))
  none_told told false (Err refusal) (inl h) = h.1
  none_told told false after (inr (h, needed)) = h.1

  none_asked : (train : ℕ) (shown : View) (full : Bool) → MatchBool full (IsRefused begin before reply added Full) (IsGranted begin before reply added train shown) → added ≡ None
  none_asked train shown true h = h.1
  none_asked train shown false (grant, speed_rows, grade_rows, g, said, entry) =
      absurd (different (grant_reply begin.track (length before + 1) shown grant speed_rows grade_rows) (refused_reply begin.track Memory) refl (sym said ∙ lost))

  none_by_view : (train : ℕ) (seen : Result View ViewFault) → AnswersAsker begin before reply added train seen → added ≡ None
  none_by_view train (Ok shown) (inl h) = none_asked train shown (is_full begin before) h
  none_by_view train (Ok shown) (inr h) = h.1
  none_by_view train (Err (Blocked obstacle at)) (inl h) = h.1
  none_by_view train (Err (Blocked obstacle at)) (inr h) = h.1
  none_by_view train (Err UnknownTrain) h = h.1

  none_commanded : (command : Result Command SessionRefusal) → AnswersCommand begin before reply added command → added ≡ None
  none_commanded (Ok Nothing) h = h.1
  none_commanded (Ok (Event told)) h = none_told told (is_full begin before) (step begin.track (replay begin before) (Tell told)) h
  none_commanded (Ok (Authority train)) h = none_by_view train (view begin.track (replay begin before) train) h
  none_commanded (Ok (Show AskedState)) h = h.1
  none_commanded (Ok (Show AskedScene)) (inl h) = h.1
  none_commanded (Ok (Show AskedScene)) (inr h) = h.1
  none_commanded (Err refusal) h = h.1

pub given_up_adds_none : (begin : Beginning) (before : List Entry) (line reply : List ℕ) (added : Option Entry) → AnswersLine begin before line reply added
    → reply ≡ refused_reply begin.track Memory → added ≡ None
given_up_adds_none begin before line reply added answers lost = none_commanded begin before reply added lost (command_in begin.track line) answers
