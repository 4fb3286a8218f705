-- What a session answers, as a function of the track, of the entries at its start and of what was read, where memory is never refused.
use Rattle.std.specs.Prelude.{ℕ, ◌+◌, ◌-◌, List, [], ◌∷◌, ◌++◌, length, Option, Some, None, Result, Ok, Err, if◌then◌else◌, pos, ◌-ℤ◌}
use Rattle.rbc_model.specs.declared.refusals.Refusal.{Refusal}
use Rattle.rbc_model.specs.declared.refusals.Refusal.TheVariants.{UnknownTrain as NoSuchTrain}
use Rattle.rbc_model.specs.declared.refusals.ViewFault.{ViewFault}
use Rattle.rbc_model.specs.declared.refusals.ViewFault.TheVariants.{UnknownTrain, Blocked}
use Rattle.rbc_model.specs.declared.reports.Told.{Told}
use Rattle.rbc_model.specs.declared.reports.Event.TheVariants.{Tell}
use Rattle.rbc_model.specs.Inquiries.{inquiry_reply}
use Rattle.rbc_model.specs.Levels.{speed_levels, grade_levels}
use Rattle.rbc_model.specs.Scales.{unit_of}
use Rattle.rbc_model.specs.Sessions.{lines_of}
use Rattle.rbc_model.specs.Scenes.{Scene}
use Rattle.rbc_model.specs.Events.{step}
use Rattle.rbc_model.specs.Views.{View, view}
use Rattle.rbc_model.specs.Histories.{Beginning, Entry, Heard, Granted, Grants, is_full, replay}
use Rattle.rbc_model.specs.SessionReply.{SessionRefusal, BadEvent, Full, accepted_reply, grant_reply, blocked_reply, refused_reply}
use Rattle.rbc_table_laws.specs.LeastTables.{greatest_prices, chosen_steps}
use Rattle.rbc_session_laws.specs.declared.command.Command.{Command}
use Rattle.rbc_session_laws.specs.declared.command.Command.TheVariants.{Nothing, Event, Authority, Show}
use Rattle.rbc_session_laws.specs.Commands.{command_in}
use Rattle.rbc_session_laws.specs.SessionRuns.{Turn, entries_of, entries_added, replies_to}

-- ---- what a train is granted

-- how many metres the view shows, from the group to the end
abbrev pub metres_shown : View → ℕ
metres_shown shown = shown.end - shown.origin

-- the grant to a train that is shown this view
unfoldable pub grant_of : View → Grants
grant_of shown = record {
  train = shown.train;
  from = pos shown.start -ℤ pos shown.origin;
  authority = record {
    time = shown.time;
    group = shown.group;
    nominal = shown.nominal;
    end = metres_shown shown;
    speeds = chosen_steps speed_levels (unit_of (metres_shown shown)) shown.speed_steps (metres_shown shown) shown.speeds;
    grades = chosen_steps grade_levels (unit_of (metres_shown shown)) shown.grade_steps (metres_shown shown) shown.grades;
  };
  obstacle = shown.obstacle;
}

-- the prices that show that no profiles lose less
unfoldable pub speed_prices_of : View → List (List ℕ)
speed_prices_of shown = greatest_prices speed_levels (unit_of (metres_shown shown)) shown.speed_steps (metres_shown shown) shown.speeds

unfoldable pub grade_prices_of : View → List (List ℕ)
grade_prices_of shown = greatest_prices grade_levels (unit_of (metres_shown shown)) shown.grade_steps (metres_shown shown) shown.grades

-- ---- what a line is answered

-- a reply, and the entry that goes with it, or none
pub record Answer : Type 0 where
  pub reply : List ℕ
  pub added : Option Entry

-- after these entries
module _ (begin : Beginning) (before : List Entry) where
  -- the answer to what is refused
  abbrev pub refused : SessionRefusal → Answer
  refused refusal = record { reply = refused_reply begin.track refusal; added = None }

  -- to what is told, by what the scene makes of it
  abbrev pub told_answer : Told → Result Scene Refusal → Answer
  told_answer told (Ok after) = record { reply = accepted_reply (length before + 1); added = Some (Heard told) }
  told_answer told (Err refusal) = refused (BadEvent refusal)

  abbrev pub event_answer : Told → Answer
  event_answer told = if is_full begin before then refused Full else told_answer told (step begin.track (replay begin before) (Tell told))

  -- to a train that asks, by what it is shown
  abbrev pub grant_answer : View → Answer
  grant_answer shown = record {
    reply = grant_reply begin.track (length before + 1) shown (grant_of shown) (speed_prices_of shown) (grade_prices_of shown);
    added = Some (Granted (grant_of shown));
  }

  abbrev pub asker_answer : ℕ → Result View ViewFault → Answer
  asker_answer train (Ok shown) = if is_full begin before then refused Full else grant_answer shown
  asker_answer train (Err (Blocked obstacle at)) = record { reply = blocked_reply begin.track train (length before) at obstacle; added = None }
  asker_answer train (Err UnknownTrain) = refused (BadEvent (NoSuchTrain train))

  -- to what is asked for
  abbrev pub command_answer : Result Command SessionRefusal → Answer
  command_answer (Ok Nothing) = record { reply = []; added = None }
  command_answer (Ok (Event told)) = event_answer told
  command_answer (Ok (Authority train)) = asker_answer train (view begin.track (replay begin before) train)
  command_answer (Ok (Show inquiry)) = record { reply = inquiry_reply begin.track (length before) (replay begin before) inquiry; added = None }
  command_answer (Err refusal) = refused refusal

  -- and to a line
  unfoldable pub line_answer : List ℕ → Answer
  line_answer line = command_answer (command_in begin.track line)

-- ---- what a session answers

-- the turns of a session that treats these lines, each after the entries of those before it
unfoldable pub turns_of : Beginning → List Entry → List (List ℕ) → List Turn
turns_of begin before [] = []
turns_of begin before (line ∷ lines) =
    let answer = line_answer begin before line in
    record { line = line; reply = answer.reply; added = answer.added } ∷ turns_of begin (before ++ entries_of answer.added) lines

-- what is written in answer to an input
abbrev pub answers_of : Beginning → List Entry → List ℕ → List ℕ
answers_of begin before input = replies_to (turns_of begin before (lines_of input))

-- and the entries after it
abbrev pub entries_after : Beginning → List Entry → List ℕ → List Entry
entries_after begin before input = before ++ entries_added (turns_of begin before (lines_of input))
