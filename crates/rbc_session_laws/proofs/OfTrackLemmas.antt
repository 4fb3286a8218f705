-- What an entry of a history that is retold tells is of the track: its line was resolved there.
use Rattle.std.proofs.Common.{◌≡◌, ℕ, ◌<◌, List, length, take, Option, Some, None, Result, Ok, Err, refl, subst}
use Rattle.std.specs.Prelude.{bytes_eq}
use Rattle.std.specs.List.{position}
use Rattle.std.specs.Result.{result_map_both}
use Rattle.std.proofs.lemmas.Option.{slice_get_within, none-some}
use Rattle.rbc_model.specs.declared.refusals.LineFault.{LineFault}
use Rattle.rbc_model.specs.declared.refusals.ViewFault.{ViewFault}
use Rattle.rbc_model.specs.declared.refusals.ViewFault.TheVariants.{UnknownTrain, Blocked}
use Rattle.rbc_model.specs.declared.reports.Told.TheVariants.{Report as ToldReport, Lock as ToldLock, Free as ToldFree, Leave as ToldLeave, GiveBack as ToldGiveBack}
use Rattle.rbc_model.specs.declared.reports.Event.TheVariants.{Tell}
use Rattle.rbc_model.specs.Results.{◌>>=◌}
use Rattle.rbc_model.specs.RequestText.{line_in}
use Rattle.rbc_model.specs.Tracks.{Track, section_named, route_named}
use Rattle.rbc_model.specs.Events.{step}
use Rattle.rbc_model.specs.Views.{View, view}
use Rattle.rbc_model.specs.Histories.{Beginning, Entry, Granted, is_full, replay}
use Rattle.rbc_model.specs.SessionText.{SessionLine, Blank, Report, Lock, Free, Leave, GiveBack, Ask, Inquire, parse_session}
use Rattle.rbc_model.specs.SessionReply.{SessionRefusal, BadLine, UnknownName}
use Rattle.rbc_model.specs.HistoryText.{entry_line}
use Rattle.rbc_session_laws.specs.declared.command.Command.{Command}
use Rattle.rbc_session_laws.specs.declared.command.Command.TheVariants.{Nothing, Event, Authority, Show}
use Rattle.rbc_session_laws.specs.Commands.{known, resolve, command_in, IsCommandOfTrack}
use Rattle.rbc_session_laws.specs.Answers.{asker_answer, command_answer, line_answer, grant_of}
use Rattle.rbc_session_laws.specs.Retelling.{IsEntryOfTrack, RetoldEntriesAreOfTrack}
use Rattle.rbc_session_laws.proofs.RetellingLemmas.{found_at, the_command, no_command, told_entry, granted_entry}

-- what is found by its name in a table stands in it
within : {X : Type 0} (name_of : X → List ℕ) (xs : List X) (name : List ℕ) (place : ℕ) → position (λ x. bytes_eq (name_of x) name) xs ≡ Some place → place < length xs
within name_of xs name place h =
    let a = found_at (λ x. bytes_eq (name_of x) name) xs place h in
    slice_get_within xs place a.x a.here

resolved_there : (track : Track) (said : SessionLine) (command : Command) → resolve track said ≡ Ok command → IsCommandOfTrack track command
resolved_there track Blank command h = subst (IsCommandOfTrack track) (the_command Nothing command h) tt
resolved_there track (Report report) command h = subst (IsCommandOfTrack track) (the_command (Event (ToldReport report)) command h) tt
resolved_there track (Lock name) command h = by_place (route_named track name) refl h
  where
    by_place : (o : Option ℕ) → route_named track name ≡ o → line_in (λ route. Event (ToldLock route)) (known name o) ≡ Ok command → IsCommandOfTrack track command
    by_place None e f = absurd (no_command (UnknownName name) command f)
    by_place (Some route) e f = subst (IsCommandOfTrack track) (the_command (Event (ToldLock route)) command f) (within (λ r. r.name) track.routes name route e)
resolved_there track (Free name) command h = by_place (section_named track name) refl h
  where
    by_place : (o : Option ℕ) → section_named track name ≡ o → line_in (λ section. Event (ToldFree section)) (known name o) ≡ Ok command → IsCommandOfTrack track command
    by_place None e f = absurd (no_command (UnknownName name) command f)
    by_place (Some section) e f = subst (IsCommandOfTrack track) (the_command (Event (ToldFree section)) command f) (within (λ s. s.name) track.sections name section e)
resolved_there track (Leave train) command h = subst (IsCommandOfTrack track) (the_command (Event (ToldLeave train)) command h) tt
resolved_there track (GiveBack train end) command h = subst (IsCommandOfTrack track) (the_command (Event (ToldGiveBack train end)) command h) tt
resolved_there track (Ask train) command h = subst (IsCommandOfTrack track) (the_command (Authority train) command h) tt
resolved_there track (Inquire inquiry) command h = subst (IsCommandOfTrack track) (the_command (Show inquiry) command h) tt

read_there : (track : Track) (read : Result SessionLine LineFault) (command : Command) → (result_map_both (λ said. said) BadLine read >>= resolve track) ≡ Ok command
    → IsCommandOfTrack track command
read_there track (Ok said) command h = resolved_there track said command h
read_there track (Err fault) command h = absurd (no_command (BadLine fault) command h)

module _ (begin : Beginning) (before : List Entry) (entry : Entry) where
  of_grant : (shown : View) → Granted (grant_of shown) ≡ entry → IsEntryOfTrack begin.track entry
  of_grant shown e = subst (IsEntryOfTrack begin.track) e tt

  of_asker : (train : ℕ) (seen : Result View ViewFault) → (asker_answer begin before train seen).added ≡ Some entry → IsEntryOfTrack begin.track entry
  of_asker train (Ok shown) h = of_grant shown (granted_entry begin before entry shown (is_full begin before) h)
  of_asker train (Err (Blocked obstacle at)) h = absurd (none-some entry h)
  of_asker train (Err UnknownTrain) h = absurd (none-some entry h)

  of_command : (line : List ℕ) (command : Result Command SessionRefusal) → command_in begin.track line ≡ command → (command_answer begin before command).added ≡ Some entry
      → IsEntryOfTrack begin.track entry
  of_command line (Ok Nothing) e h = absurd (none-some entry h)
  of_command line (Ok (Event told)) e h =
      subst (IsEntryOfTrack begin.track) (told_entry begin before entry told (is_full begin before) (step begin.track (replay begin before) (Tell told)) h)
      (read_there begin.track (parse_session line) (Event told) e)
  of_command line (Ok (Authority train)) e h = of_asker train (view begin.track (replay begin before) train) h
  of_command line (Ok (Show inquiry)) e h = absurd (none-some entry h)
  of_command line (Err refusal) e h = absurd (none-some entry h)

  of_line : (line : List ℕ) → (line_answer begin before line).added ≡ Some entry → IsEntryOfTrack begin.track entry
  unfolding line_answer
  of_line line h = of_command line (command_in begin.track line) refl h

pub retold_entries_are_of_track : RetoldEntriesAreOfTrack
retold_entries_are_of_track begin entries retold place entry here = of_line begin (take place entries) entry (entry_line begin.track entry) (retold place entry here)
