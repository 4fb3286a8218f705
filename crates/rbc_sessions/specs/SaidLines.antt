-- What was read of a line from a seat: what it says, and what that asks the centre for.
use Rattle.std.specs.Prelude.{◌≡◌, Result, Ok, Err}
use Rattle.std.specs.Result.{result_map_both}
use Rattle.rbc_model.specs.SessionReply.{SessionRefusal}
use Rattle.rbc_model.specs.SessionText.{IsSayable}
use Rattle.rbc_model.specs.Tracks.{Track}
use Rattle.rbc_replies.specs.Replies.{refusal_view, RefusalIsOfTrack}
use Rattle.rbc_replies.specs.SessionLines.{request_view}
use Rattle.rbc_replies.specs.declared.replies.SessionRefusal.{SessionRefusal as ToldRefusal}
use Rattle.rbc_session_laws.specs.declared.command.Command.{Command}
use Rattle.rbc_session_laws.specs.Commands.{resolve, IsCommandOfTrack}
use Rattle.rbc_sessions.specs.declared.command.Said.{Said}

-- What a line asks for of which this was read, or why it asks for nothing.
abbrev pub asked_by : Result Said ToldRefusal → Result Command SessionRefusal
asked_by read = result_map_both (λ said. said.command) refusal_view read

-- Some line can say it, and by the names of this track it asks for just this.
pub record IsSaidOn (track : Track) (said : Said) : Type 0 where
  pub sayable : IsSayable (request_view said.request)
  pub asks : resolve track (request_view said.request) ≡ Ok said.command
  pub of_track : IsCommandOfTrack track said.command

-- What was read of a line goes by the names of this track. A refusal names nothing else.
abbrev pub IsReadOn : Track → Result Said ToldRefusal → Type 0
IsReadOn track (Ok said) = IsSaidOn track said
IsReadOn track (Err refusal) = RefusalIsOfTrack track refusal
