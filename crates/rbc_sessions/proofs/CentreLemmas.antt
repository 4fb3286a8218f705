-- A line: what its command comes to is what it comes to.
use Rattle.std.proofs.Common.{◌≡◌, ℕ, List, Option, None, Result, Ok, Err, refl, sym, ap, ◌∙◌, subst}
use Rattle.rbc_model.specs.Tracks.{Track}
use Rattle.rbc_model.specs.Histories.{Beginning, Entry}
use Rattle.rbc_model.specs.SessionReply.{SessionRefusal, refused_reply}
use Rattle.rbc_sweep.specs.Records.{begin_of, HistoryOnTrack}
use Rattle.rbc_replies.specs.Replies.{reply_text}
use Rattle.rbc_replies.specs.declared.replies.SessionReply.{SessionReply}
use Rattle.rbc_session_laws.specs.declared.command.Command.{Command}
use Rattle.rbc_session_laws.specs.Commands.{command_in}
use Rattle.rbc_session_laws.specs.Turns.{AnswersCommand}
use Rattle.rbc_sessions.specs.Changes.{Comes, Goes}
use Rattle.rbc_sessions.proofs.TellingLemmas.{nothing_added}

-- the reply is printed with the names of the track, which stays
pub printed_comes : (Answers : Beginning → List Entry → List ℕ → Option Entry → Type 0) (before after : HistoryOnTrack) (reply : SessionReply) (track : Track) → track ≡ after.track
    → Comes Answers before (reply_text before.track reply) after → Comes Answers before (reply_text track reply) after
printed_comes Answers before after reply track is comes =
    subst (λ t. Comes Answers before (reply_text t reply) after) (sym (is ∙ ap (λ (h : HistoryOnTrack). h.track) comes.2)) comes

pub line_comes : (before after : HistoryOnTrack) (line reply : List ℕ) (command : Result Command SessionRefusal) (track : Track) → track ≡ before.track → command ≡ command_in track line
    → Comes (λ t entries said added. AnswersCommand t entries said added command) before reply after → Goes before line reply after
line_comes before after line reply command track is e comes =
    (comes.0, subst (AnswersCommand (begin_of before) before.entries reply comes.0) (e ∙ ap (λ t. command_in t line) is) comes.1, comes.2)

-- what a line asks for, as it was found
pub command_is : (track : Track) (line : List ℕ) (found command : Command) → found ≡ command → Ok found ≡ command_in track line → Ok command ≡ command_in track line
command_is track line found command e h = subst (λ d. Ok d ≡ command_in track line) e h

-- a line that is refused changes nothing
pub refused_comes : (history : HistoryOnTrack) (line : List ℕ) (refusal : SessionRefusal) (track printed : Track) → track ≡ history.track → printed ≡ history.track
    → Err refusal ≡ command_in track line → Goes history line (refused_reply printed refusal) history
refused_comes history line refusal track printed is also e =
    line_comes history history line (refused_reply printed refusal) (Err refusal) track is e (None, (ap (λ t. refused_reply t refusal) also, refl), nothing_added history)
