-- What a line asks for, treated.
use Rattle.std.proofs.Common.{◌≡◌, false, ℕ, ◌<◌, ◌&&◌, List, [], ◌∷◌, true, nat_le, arith, length, None, Result, Ok, Err, refl, sym, ap, ◌∙◌, subst, append-nil, inr}
use Rattle.std.specs.Prelude.{◌≢◌}
use Rattle.std.specs.List.{AllByRecursion, list_all}
use Rattle.std.specs.Result.{result_map_both}
use Rattle.std.proofs.lemmas.List.Elements.{All-from_recursion}
use Rattle.rbc_journal.specs.Gates.{IsLine}
use Rattle.rbc_journal.specs.Journal.{IsTold}
use Rattle.rbc_journal.specs.Seals.{is_comment}
use Rattle.rbc_model.proofs.CountingLemmas.{both_of}
use Rattle.rbc_model.proofs.SaidLineLemmas.{said_is_text}
use Rattle.std.proofs.lemmas.Bool.{leb-true, lt-ltb}
use Rattle.rbc_model.specs.declared.limits.TheConstants.{LONGEST_LINE}
use Rattle.rbc_model.specs.declared.refusals.LineFault.{LineFault}
use Rattle.rbc_model.specs.declared.refusals.LineFault.TheVariants.{Overlong}
use Rattle.rbc_model.specs.Results.{◌>>=◌}
use Rattle.rbc_model.specs.Tracks.{Track}
use Rattle.rbc_model.specs.Views.{View, view}
use Rattle.rbc_model.specs.SessionText.{SessionLine, Ask, Inquire, Blank, Free, GiveBack, Leave, Lock, Report, parse_session, said_line, IsSayable}
use Rattle.rbc_model.specs.SessionReply.{SessionRefusal, BadLine, refused_reply}
use Rattle.rbc_sessions.specs.Replies.{reply_text}
use Rattle.rbc_sessions.specs.SessionRefusal.TheVariants.{Memory as NoMemory}
use Rattle.rbc_sessions.specs.SessionReply.{SessionReply}
use Rattle.rbc_sessions.specs.SessionReply.TheVariants.{Refused as RefusedReply}
use Rattle.rbc_sessions.specs.Changes.{Comes, Goes}
use Rattle.rbc_sessions.specs.Records.{history_on, begin_of, HistoryOnTrack, scene_now}
use Rattle.rbc_sessions.proofs.CentreLemmas.{line_comes, printed_comes, refused_comes}
use Rattle.rbc_sessions.proofs.KeepingLemmas.{line_asks}
use Rattle.rbc_model.specs.declared.sessions.Inquiry.{Inquiry}
use Rattle.rbc_model.specs.declared.sessions.Inquiry.TheVariants.{State as AskedState, Scene as AskedScene}
use Rattle.rbc_session_laws.specs.declared.command.Command.{Command}
use Rattle.rbc_session_laws.specs.declared.command.Command.TheVariants.{Nothing, Authority, Show}
use Rattle.rbc_session_laws.specs.Commands.{resolve}
use Rattle.rbc_session_laws.specs.Turns.{AnswersAsker, AnswersCommand, AnswersInquiry}
use Rattle.rbc_journaled.specs.Advances.{IsTreated}

-- what is asked for comes to this
abbrev pub ComesTo : Result Command SessionRefusal → HistoryOnTrack → List ℕ → HistoryOnTrack → Type 0
ComesTo command before reply after = Comes (λ begin entries said added. AnswersCommand begin entries said added command) before reply after

-- what a request asks for, as it was found
pub asked : (track other : Track) (said : SessionLine) (found command : Command) → track ≡ other → found ≡ command → Ok found ≡ resolve track said → resolve other said ≡ Ok command
asked track other said found command is same e =
    subst (λ t. resolve t said ≡ Ok command) is (sym (subst (λ d. Ok d ≡ resolve track said) same e))

-- a blank line comes to nothing
pub nothing_comes : (history : HistoryOnTrack) → ComesTo (Ok Nothing) history [] history
nothing_comes history = (None, (refl, refl), ap (history_on (begin_of history)) (sym (append-nil history.entries)))

-- what is asked to be shown changes nothing
pub shown_comes : (history : HistoryOnTrack) (inquiry : Inquiry) (reply : List ℕ) → AnswersInquiry (begin_of history) history.entries reply None inquiry → ComesTo (Ok (Show inquiry)) history reply history
shown_comes history inquiry reply answers = (None, answers, ap (history_on (begin_of history)) (sym (append-nil history.entries)))

-- a train that is shown a view is given up where there is no memory
pub given_up : (first now : HistoryOnTrack) (train : ℕ) (shown : View) → now ≡ first → view first.track (scene_now first) train ≡ Ok shown
    → ComesTo (Ok (Authority train)) now (reply_text now.track (RefusedReply NoMemory)) now
given_up first now train shown same is = (
  None,
  subst (AnswersAsker (begin_of now) now.entries (reply_text now.track (RefusedReply NoMemory)) None train)
      (sym (subst (λ (h : HistoryOnTrack). view h.track (scene_now h) train ≡ Ok shown) (sym same) is)) (inr (refl, refl)),
  ap (history_on (begin_of now)) (sym (append-nil now.entries)),
)

-- what is refused when it is resolved changes nothing
pub refused_said : (history : HistoryOnTrack) (line : List ℕ) (said : SessionLine) (refusal : SessionRefusal) (track printed : Track) → track ≡ history.track → printed ≡ history.track
    → parse_session line ≡ Ok said → Err refusal ≡ resolve track said → Goes history line (refused_reply printed refusal) history
refused_said history line said refusal track printed is also read e =
    refused_comes history line refusal track printed is also (e ∙ sym (line_asks track line said read))

pub goes_by : (before after : HistoryOnTrack) (line reply : List ℕ) (said : SessionLine) (command : Result Command SessionRefusal) → parse_session line ≡ Ok said
    → resolve before.track said ≡ command → ComesTo command before reply after → Goes before line reply after
goes_by before after line reply said command read asks comes =
    line_comes before after line reply command before.track refl (sym (line_asks before.track line said read ∙ asks)) comes

pub treated_by : (first before after : HistoryOnTrack) (line text : List ℕ) (said : SessionLine) (command : Result Command SessionRefusal) (reply : SessionReply) → before ≡ first
    → parse_session line ≡ Ok said → parse_session text ≡ Ok said → resolve first.track said ≡ command → ComesTo command before (reply_text before.track reply) after
    → IsTreated first after line text (reply_text after.track reply)
treated_by first before after line text said command reply same read says asks comes =
    let from_first = subst (λ (h : HistoryOnTrack). ComesTo command h (reply_text h.track reply) after) same comes in
    record {
      goes = goes_by first after line (reply_text after.track reply) said command read asks
          (printed_comes (λ begin entries s added. AnswersCommand begin entries s added command) first after reply after.track refl from_first);
      says = says ∙ sym read;
    }

-- what a line comes to from a record, it comes to from one that is equal to it
pub goes_from : (first before after : HistoryOnTrack) (line reply : List ℕ) (said : SessionLine) (command : Result Command SessionRefusal) → before ≡ first → parse_session line ≡ Ok said
    → resolve first.track said ≡ command → ComesTo command before reply after → Goes first line reply after
goes_from first before after line reply said command same read asks comes =
    goes_by first after line reply said command read asks (subst (λ (h : HistoryOnTrack). ComesTo command h reply after) same comes)

-- what a line leads to may be given by a record that is equal to it
pub said_goes : (first after now : HistoryOnTrack) (line : List ℕ) (reply : SessionReply) → now ≡ after → Goes first line (reply_text after.track reply) after
    → Goes first line (reply_text now.track reply) now
said_goes first after now line reply same goes = subst (λ (h : HistoryOnTrack). Goes first line (reply_text h.track reply) h) (sym same) goes

-- ---- lines that are refused before they are resolved

pub refused_goes : (history : HistoryOnTrack) (line : List ℕ) (fault : LineFault) (track : Track) → track ≡ history.track → parse_session line ≡ Err fault
    → Goes history line (refused_reply track (BadLine fault)) history
refused_goes history line fault track is read =
    refused_comes history line (BadLine fault) history.track track refl is (sym (ap (λ r. result_map_both (λ x. x) BadLine r >>= resolve history.track) read))

pub overlong_goes : (history : HistoryOnTrack) (line : List ℕ) (track : Track) → track ≡ history.track → LONGEST_LINE < length line
    → Goes history line (refused_reply track (BadLine Overlong)) history
overlong_goes history line track is long =
    let read : parse_session line ≡ Err Overlong = rw (lt-ltb LONGEST_LINE (length line) long) refl in
    refused_goes history line Overlong track is read

-- ---- the line of a request has no line feed

no_feed : (bytes : List ℕ) → list_all (λ byte. nat_le 0x20 byte && nat_le byte 0x7e) bytes ≡ true → AllByRecursion (λ byte. byte ≢ 10) bytes
no_feed [] is = tt
no_feed (byte ∷ bytes) is =
    let both = both_of (nat_le 0x20 byte && nat_le byte 0x7e) (list_all (λ b. nat_le 0x20 b && nat_le b 0x7e) bytes) is in
    let low = both_of (nat_le 0x20 byte) (nat_le byte 0x7e) both.0 in
    (above byte low.0, no_feed bytes both.1)
  where
    above : (n : ℕ) → nat_le 0x20 n ≡ true → n ≡ 10 → ⊥
    above n low same = let le = leb-true 32 n low in absurd (omega arith)

said_is_line : (said : SessionLine) → IsSayable said → IsLine (said_line said)
said_is_line said sayable = All-from_recursion (λ byte. byte ≢ 10) (said_line said) (no_feed (said_line said) (said_is_text said sayable))

-- its first word is one of a request, so it is no comment
said_no_comment : (said : SessionLine) → is_comment (said_line said) ≡ false
said_no_comment Blank = refl
said_no_comment (Report report) = refl
said_no_comment (Lock name) = refl
said_no_comment (Free name) = refl
said_no_comment (Leave train) = refl
said_no_comment (GiveBack train end) = refl
said_no_comment (Ask train) = refl
said_no_comment (Inquire AskedState) = refl
said_no_comment (Inquire AskedScene) = refl

pub said_is_told : (said : SessionLine) → IsSayable said → IsTold (said_line said)
said_is_told said sayable = record { one = said_is_line said sayable; said = said_no_comment said }
