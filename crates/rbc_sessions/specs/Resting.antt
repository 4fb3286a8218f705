-- What was told or asked in a session and rests, with the text of its request.
use Rattle.std.specs.Prelude.{◌≡◌, List, map, Result, Ok}
use Rattle.rbc_model.specs.SessionReply.{SessionRefusal}
use Rattle.rbc_model.specs.SessionText.{SessionLine, IsSayable}
use Rattle.rbc_model.specs.Tracks.{Track}
use Rattle.rbc_session_laws.specs.declared.command.Command.{Command}
use Rattle.rbc_session_laws.specs.declared.command.Command.TheVariants.{Event, Authority}
use Rattle.rbc_session_laws.specs.Commands.{resolve, IsCommandOfTrack}
use Rattle.rbc_sessions.specs.declared.batch.Resting.{Resting}
use Rattle.rbc_sessions.specs.declared.batch.Rested.{Rested}
use Rattle.rbc_sessions.specs.declared.batch.Rested.TheVariants.{Told as RestedTold, Asked as RestedAsked}

-- what a line that rests asks the centre for
abbrev pub command_of : Rested → Command
command_of (RestedTold told) = Event told
command_of (RestedAsked train) = Authority train

module _ {T : Type 0} where
  -- The text says a request that some line can say, and that asks for just this by the names of this track.
  pub record IsPrepared (track : Track) (says : T → SessionLine → Type 0) (resting : Resting T) : Type 0 where
    pub request : SessionLine
    pub sayable : IsSayable request
    pub said : says resting.text request
    pub asks : resolve track request ≡ Ok (command_of resting.rested)
    pub of_track : IsCommandOfTrack track (command_of resting.rested)

  -- what is asked for, in order
  abbrev pub commands_resting : List (Resting T) → List (Result Command SessionRefusal)
  commands_resting batch = map (λ (resting : Resting T). Ok (command_of resting.rested)) batch
