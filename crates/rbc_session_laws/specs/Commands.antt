-- What a line of a session asks the centre for: its names are resolved in the track.
use Rattle.std.specs.Prelude.{ℕ, List, Option, Some, None, Result, Ok, Err}
use Rattle.std.specs.Result.{result_map_both}
use Rattle.rbc_model.specs.declared.reports.Told.TheVariants.{Report as ToldReport, Lock as ToldLock, Free as ToldFree, Leave as ToldLeave, GiveBack as ToldGiveBack}
use Rattle.rbc_model.specs.Results.{◌>>=◌}
use Rattle.rbc_model.specs.RequestText.{line_in}
use Rattle.rbc_model.specs.Tracks.{Track, section_named, route_named}
use Rattle.rbc_model.specs.SessionText.{SessionLine, Blank, Report, Lock, Free, Leave, GiveBack, Ask, Inquire, parse_session}
use Rattle.rbc_model.specs.SessionReply.{SessionRefusal, BadLine, UnknownName}
use Rattle.rbc_model.specs.HistoryText.{IsToldOfTrack}
use Rattle.rbc_session_laws.specs.declared.command.Command.{Command}
use Rattle.rbc_session_laws.specs.declared.command.Command.TheVariants.{Nothing, Event, Authority, Show}

-- what the track has by this name, as its number there
abbrev pub known : List ℕ → Option ℕ → Result ℕ SessionRefusal
known name None = Err (UnknownName name)
known name (Some number) = Ok number

-- what a line asks for, its route or section resolved by the name
abbrev pub resolve : Track → SessionLine → Result Command SessionRefusal
resolve track Blank = Ok Nothing
resolve track (Report report) = Ok (Event (ToldReport report))
resolve track (Lock name) = line_in (λ route. Event (ToldLock route)) (known name (route_named track name))
resolve track (Free name) = line_in (λ section. Event (ToldFree section)) (known name (section_named track name))
resolve track (Leave train) = Ok (Event (ToldLeave train))
resolve track (GiveBack train end) = Ok (Event (ToldGiveBack train end))
resolve track (Ask train) = Ok (Authority train)
resolve track (Inquire inquiry) = Ok (Show inquiry)

-- what the bytes of a line ask for, or why they ask for nothing: they are no request, or the track has not the name
abbrev pub command_in : Track → List ℕ → Result Command SessionRefusal
command_in track line = result_map_both (λ said. said) BadLine (parse_session line) >>= resolve track

-- the route or the section that a line tells is one of the track's
abbrev pub IsCommandOfTrack : Track → Command → Type 0
IsCommandOfTrack track (Event told) = IsToldOfTrack track told
IsCommandOfTrack track _ = Unit {0}
