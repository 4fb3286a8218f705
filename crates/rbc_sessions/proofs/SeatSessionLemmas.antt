-- A talk at a desk from one seat, turn by turn.
use Rattle.std.proofs.Common.{◌≡◌, ℕ, List, [], ◌∷◌, Option, Result, Ok, Err, refl, sym, subst}
use Rattle.std.proofs.Math.Seq.{take-append_seam}
use Rattle.rbc_model.specs.Histories.{Beginning, Entry, Receipt}
use Rattle.rbc_model.specs.SessionReply.{SessionRefusal}
use Rattle.rbc_sweep.specs.Outcomes.{Begins}
use Rattle.rbc_sweep.specs.Records.{HistoryOnTrack}
use Rattle.rbc_sweep.proofs.WorkLemmas.{begins_itself, begins_later, begins_still}
use Rattle.rbc_session_laws.specs.declared.command.Command.{Command}
use Rattle.rbc_session_laws.specs.declared.command.Command.TheVariants.{Nothing, Event, Authority, Show}
use Rattle.rbc_sessions.specs.Changes.{with_added}
use Rattle.rbc_session_laws.specs.Commands.{command_in}
use Rattle.rbc_sessions.specs.SeatSessions.{SeatTurn, AreInTurn}
use Rattle.rbc_sessions.specs.SeatTurns.{AnswersCommandAtDesk, IsAnsweredSince, entry_in}
use Rattle.rbc_session_laws.specs.SessionRuns.{entries_of}

-- ---- what is told from turn to turn

begins_added : (before : HistoryOnTrack) (added : Option Entry) → Begins before (with_added before added)
begins_added before added = record { track = refl; begin = refl; most = refl; opening = take-append_seam before.entries (entries_of added) }

begins_since : (Answers : Beginning → List Entry → Option Entry → Type 0) (begun after : HistoryOnTrack) (receipt : Option Receipt) → IsAnsweredSince Answers begun after receipt → Begins begun after
begins_since Answers begun after receipt since =
    begins_still begun since.before after (begins_later begun since.before since.later) (subst (Begins since.before) (sym since.told) (begins_added since.before (entry_in receipt)))

begins_idle : (begun after : HistoryOnTrack) → after ≡ begun → Begins begun after
begins_idle begun after same = subst (Begins begun) (sym same) (begins_itself begun)

begins_turn : (begun after : HistoryOnTrack) (reply : List ℕ) (receipt : Option Receipt) (command : Result Command SessionRefusal) → AnswersCommandAtDesk begun after reply receipt command → Begins begun after
begins_turn begun after reply receipt (Ok Nothing) (said, (none, same)) = begins_idle begun after same
begins_turn begun after reply receipt (Ok (Event told)) since = begins_since _ begun after receipt since
begins_turn begun after reply receipt (Ok (Authority train)) since = begins_since _ begun after receipt since
begins_turn begun after reply receipt (Ok (Show inquiry)) since = begins_since _ begun after receipt since
begins_turn begun after reply receipt (Err refusal) (said, (none, same)) = begins_idle begun after same

-- the track is still the same
pub turn_track : (begun after : HistoryOnTrack) (reply : List ℕ) (receipt : Option Receipt) (command : Result Command SessionRefusal) → AnswersCommandAtDesk begun after reply receipt command
    → after.track ≡ begun.track
turn_track begun after reply receipt command answers = let begins = begins_turn begun after reply receipt command answers in begins.track

pub begins_turns : (begun last : HistoryOnTrack) (turns : List SeatTurn) → AreInTurn begun turns last → Begins begun last
begins_turns begun last [] same = begins_idle begun last same
begins_turns begun last (turn ∷ turns) (first, more) =
    begins_still begun turn.told last (begins_turn begun turn.told turn.reply turn.receipt (command_in begun.track turn.line) first) (begins_turns turn.told last turns more)
