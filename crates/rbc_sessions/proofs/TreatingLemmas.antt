-- What a line asks for: how it is replied to where nothing is entered, and what it adds.
use Rattle.std.proofs.Common.{◌≡◌, ℕ, ◌+◌, ◌<◌, List, [], length, None, Result, Ok, Err, refl, sym, ap, ◌∙◌, subst}
use Rattle.std.proofs.lemmas.Bool.{lt-ltb}
use Rattle.rbc_model.specs.Scenes.{Scene}
use Rattle.rbc_model.specs.declared.limits.TheConstants.{LONGEST_LINE}
use Rattle.rbc_model.specs.declared.memory.OrMemory.{OrMemory}
use Rattle.rbc_model.specs.declared.refusals.LineFault.TheVariants.{Overlong}
use Rattle.rbc_model.specs.declared.reports.Told.{Told}
use Rattle.rbc_model.specs.Histories.{Entry, Receipt}
use Rattle.rbc_model.specs.SessionReply.{SessionRefusal, accepted_reply, refused_reply}
use Rattle.rbc_model.specs.SessionText.{SessionLine, IsSayable, parse_session}
use Rattle.rbc_model.specs.SoundTracks.{IsInForm}
use Rattle.rbc_model.specs.Tracks.{Track}
use Rattle.rbc_replies.specs.Replies.{refusal_view}
use Rattle.rbc_replies.specs.declared.replies.SessionRefusal.{SessionRefusal as ToldRefusal}
use Rattle.rbc_session_laws.specs.declared.command.Command.{Command}
use Rattle.rbc_session_laws.specs.declared.command.Command.TheVariants.{Nothing, Event, Authority}
use Rattle.rbc_session_laws.specs.Commands.{resolve}
use Rattle.rbc_session_laws.specs.Turns.{AnswersAuthority, AnswersEvent}
use Rattle.rbc_sweep.specs.ApplyFault.{ApplyFault}
use Rattle.rbc_sweep.specs.AskFault.{AskFault}
use Rattle.rbc_sweep.specs.Asking.{IsAnswered, IsAnsweredThen}
use Rattle.rbc_sweep.specs.Granted.{Granted as GrantedAtDesk}
use Rattle.rbc_sweep.specs.Records.{begin_on, history_on}
use Rattle.rbc_sweep.specs.Seats.{Seated}
use Rattle.rbc_sweep.specs.Telling.{IsToldThen}
use Rattle.rbc_sessions.specs.Keeping.{AddsEntry}
use Rattle.rbc_sessions.specs.SeatChanges.{SeatReplies}
use Rattle.rbc_sessions.specs.SeatTurns.{IsAnsweredSince}
use Rattle.rbc_sessions.specs.Shown.{told_refusal, entry_granted_in}
use Rattle.rbc_sessions.proofs.KeepingLemmas.{since_adds}
use Rattle.rbc_sessions.proofs.SeatLemmas.{asked_at_desk, not_told_at_desk, receipt_in, told_at_desk}

-- ---- what needs no entry

-- what is told is refused
pub not_told_replied : (told : Told) (fault : OrMemory ApplyFault) (refusal : ToldRefusal) (track : Track) (before after : Seated) → refusal ≡ told_refusal fault → before.told.track ≡ track
    → IsToldThen before.told after.told told (Err fault) → after.receipts ≡ before.receipts → SeatReplies (Ok (Event told)) before (refused_reply track (refusal_view refusal)) after
not_told_replied told fault refusal track before after is on since receipts =
    (rw is (not_told_at_desk told fault track before after on since), receipts)

-- a train that asks is granted nothing
pub denied_replied : (train : ℕ) (track : Track) (reply : List ℕ) (fault : OrMemory AskFault) (before after : Seated) → before.told.track ≡ track → IsAnsweredThen before.told after.told train (Err fault)
    → ((scene : Scene) (most : ℕ) (entries : List Entry) → IsAnswered (history_on (begin_on track scene most) entries) train (Err fault) → AnswersAuthority (begin_on track scene most) entries reply None train)
    → after.receipts ≡ before.receipts → SeatReplies (Ok (Authority train)) before reply after
denied_replied train track reply fault before after on since says receipts = (asked_at_desk train track reply (Err fault) before after on since says, receipts)

-- nothing is asked for
pub nothing_replied : (seat : Seated) (command : Result Command SessionRefusal) → Ok Nothing ≡ command → SeatReplies command seat [] seat
nothing_replied seat command is = subst (λ c. SeatReplies c seat [] seat) is ((refl, (refl, refl)), refl)

-- a line is refused at once
pub refused_replied : (seat : Seated) (command : Result Command SessionRefusal) (refusal : SessionRefusal) (track : Track) → track ≡ seat.told.track → Err refusal ≡ command
    → SeatReplies command seat (refused_reply track refusal) seat
refused_replied seat command refusal track on is =
    subst (λ c. SeatReplies c seat (refused_reply track refusal) seat) is ((ap (λ t. refused_reply t refusal) on, (refl, refl)), refl)

-- a line that is too long is no request
pub overlong_read : (line : List ℕ) → LONGEST_LINE < length line → parse_session line ≡ Err Overlong
overlong_read line long = rw (lt-ltb LONGEST_LINE (length line) long) refl

-- ---- what a request adds

-- what was told is the entry that its request adds
pub told_adds : (told : Told) (receipt : Receipt) (place : ℕ) (old new : Seated) (said : SessionLine) (track opened : Track) → IsToldThen old.told new.told told (Ok receipt) → place ≡ receipt.place
    → old.told.track ≡ opened → track ≡ opened → IsInForm track → IsSayable said → resolve opened said ≡ Ok (Event told) → AddsEntry new.told receipt.place said
told_adds told receipt place old new said track opened since at on is form sayable asks =
    since_adds (λ t entries added. AnswersEvent t entries (accepted_reply (place + 1)) added told) old.told new.told receipt said (Ok (Event told)) (accepted_reply (place + 1))
    (told_at_desk told receipt place old new since at) (subst IsInForm (is ∙ sym on) form) sayable (ap (λ t. resolve t said) on ∙ asks) (λ t entries answers. answers)

-- what was granted is the entry that the train's request adds
pub granted_adds : (train : ℕ) (reply : List ℕ) (granted : GrantedAtDesk) (answer : Result GrantedAtDesk (OrMemory AskFault)) (old new : Seated) (said : SessionLine) (track opened : Track) → answer ≡ Ok granted
    → IsAnsweredThen old.told new.told train answer → ((scene : Scene) (most : ℕ) (entries : List Entry) → IsAnswered (history_on (begin_on track scene most) entries) train answer → AnswersAuthority (begin_on track scene most) entries reply (entry_granted_in answer) train)
    → old.told.track ≡ opened → track ≡ opened → IsInForm track → IsSayable said → resolve opened said ≡ Ok (Authority train) → AddsEntry new.told granted.receipt.place said
granted_adds train reply granted answer old new said track opened is since says on of_desk form sayable asks =
    let answered = asked_at_desk train track reply answer old new (on ∙ sym of_desk) since says in
    since_adds (λ t entries added. AnswersAuthority t entries reply added train) old.told new.told granted.receipt said (Ok (Authority train)) reply
    (subst (λ a. IsAnsweredSince (λ t entries added. AnswersAuthority t entries reply added train) old.told new.told (receipt_in a)) is answered)
    (subst IsInForm (of_desk ∙ sym on) form) sayable (ap (λ t. resolve t said) on ∙ asks) (λ t entries answers. answers)
