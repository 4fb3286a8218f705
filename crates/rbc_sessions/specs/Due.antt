-- The replies that are due to what rested, before they are printed.
use Rattle.std.specs.Prelude.{◌≡◌, ℕ, List, [], ◌∷◌, ◌++◌, Result}
use Rattle.rbc_model.specs.Histories.{Entry}
use Rattle.rbc_model.specs.Scenes.{Scene}
use Rattle.rbc_model.specs.SessionReply.{SessionRefusal}
use Rattle.rbc_model.specs.Tracks.{Track}
use Rattle.rbc_replies.specs.Replies.{reply_text, ReplyIsWhole}
use Rattle.rbc_replies.specs.declared.replies.SessionReply.{SessionReply}
use Rattle.rbc_replies.specs.declared.replies.SessionReply.TheVariants.{Accepted, Refused}
use Rattle.rbc_session_laws.specs.Turns.{AnswersAuthority}
use Rattle.rbc_session_laws.specs.declared.command.Command.{Command}
use Rattle.rbc_sweep.specs.Asking.{IsAnswered, IsAnsweredThen}
use Rattle.rbc_sweep.specs.Records.{begin_on, history_on, HistoryOnTrack}
use Rattle.rbc_sweep.specs.Seats.{Seated}
use Rattle.rbc_sessions.specs.SeatChanges.{SeatComes}
use Rattle.rbc_sessions.specs.Shown.{entry_granted_in}
use Rattle.rbc_sessions.specs.Dues.{Due, ToldSo, AskedSo}
use Rattle.rbc_sessions.specs.declared.batch.AskedReply.{AskedReply}
use Rattle.rbc_sessions.specs.declared.batch.ToldReply.{ToldReply}
use Rattle.rbc_sessions.specs.declared.batch.ToldReply.TheVariants.{Accepted as ToldAccepted, Refused as ToldRefused}

abbrev pub DueReply : Type 0
DueReply = Due ToldReply AskedReply

-- the reply of a session that it stands for
abbrev pub told_reply : ToldReply → SessionReply
told_reply (ToldAccepted version) = Accepted version
told_reply (ToldRefused refusal) = Refused refusal

module _ (track : Track) where
  -- The text is one that is right for it: the reply to what was told, or one that tells a train just this answer.
  abbrev pub IsSaidOf : DueReply → List ℕ → Type 0
  IsSaidOf (ToldSo reply) text = text ≡ reply_text track (told_reply reply)
  IsSaidOf (AskedSo asked) text = (scene : Scene) (most : ℕ) (entries : List Entry) → IsAnswered (history_on (begin_on track scene most) entries) asked.train asked.answer
      → AnswersAuthority (begin_on track scene most) entries text (entry_granted_in asked.answer) asked.train

  -- It can be printed: it names nothing but what the track has.
  abbrev pub CanBeSaid : DueReply → Type 0
  CanBeSaid (ToldSo reply) = ReplyIsWhole track (told_reply reply)
  CanBeSaid (AskedSo asked) = (begun : HistoryOnTrack) × (after : HistoryOnTrack) × (begun.track ≡ track) × IsAnsweredThen begun after asked.train asked.answer

  -- this text is made of right ones, in order
  abbrev pub AreSaidOf : List DueReply → List ℕ → Type 0
  AreSaidOf [] text = text ≡ []
  AreSaidOf (due ∷ more) text = (reply : List ℕ) × (rest : List ℕ) × IsSaidOf due reply × (text ≡ reply ++ rest) × AreSaidOf more rest

  -- What is asked for was entered or refused, and leads from the one seat to the other. Each text that is right for the reply answers it, and there is one.
  pub record Owes (before : Seated) (command : Result Command SessionRefusal) (due : DueReply) (after : Seated) : Type 0 where
    pub can_be_said : CanBeSaid due
    pub comes : (text : List ℕ) → IsSaidOf due text → SeatComes command before text after
    pub text : List ℕ
    pub said : IsSaidOf due text

  -- so it is with all that is asked for, one after the other
  abbrev pub OwesAll : Seated → List (Result Command SessionRefusal) → List DueReply → Seated → Type 0
  OwesAll before [] [] after = after ≡ before
  OwesAll before [] (due ∷ dues) after = ⊥
  OwesAll before (command ∷ commands) [] after = ⊥
  OwesAll before (command ∷ commands) (due ∷ dues) after = (next : Seated) × Owes before command due next × OwesAll next commands dues after

  -- What is asked for was entered or refused up to what is left of it, and these replies are due to it behind those from before.
  pub record IsOwedSoFar (first : Seated) (all : List (Result Command SessionRefusal)) (before : List DueReply) (seat : Seated) (left : List (Result Command SessionRefusal)) (now : List DueReply) : Type 0 where
    pub gained : List DueReply
    pub dues : now ≡ before ++ gained
    pub goes_on : (later : List DueReply) (after : Seated) → OwesAll seat left later after → OwesAll first all (gained ++ later) after
