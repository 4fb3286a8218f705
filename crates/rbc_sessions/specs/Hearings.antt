-- What the treatment of a line makes of a sitting at which lines rest.
use Rattle.std.specs.Prelude.{◌≡◌, ℕ, ◌<◌, true, false, List, [], ◌∷◌, ◌++◌, length, All, ◌⊎◌, Ok}
use Rattle.rbc_model.specs.SessionText.{SessionLine}
use Rattle.rbc_model.specs.Tracks.{Track}
use Rattle.rbc_session_laws.specs.Commands.{command_in}
use Rattle.rbc_sessions.specs.Resting.{IsPrepared, command_of, commands_resting}
use Rattle.rbc_sessions.specs.Sittings.{Enters}
use Rattle.rbc_sessions.specs.declared.batch.Resting.{Resting}
use Rattle.rbc_sessions.specs.declared.batch.TheConstants.{MOST_RESTING}
use Rattle.rbc_sessions.specs.declared.hearing.Hearing.{Hearing}

module _ {L P T : Type 0} where
  module _ (track : Track) (says : T → SessionLine → Type 0) where
    -- Nothing has failed, and all that rests can be entered and kept: fewer lines than may.
    pub record IsGoing (hearing : Hearing L P T) : Type 0 where
      pub whole : hearing.sitting.has_failed ≡ false
      pub each : All (IsPrepared track says) hearing.batch
      pub few : length hearing.batch < MOST_RESTING

    -- The line is told, or asks for an authority, and rests behind the others.
    pub record Rests (before : Hearing L P T) (line : List ℕ) (after : Hearing L P T) : Type 0 where
      pub one : Resting T
      pub asks : command_in before.sitting.seat.told.track line ≡ Ok (command_of one.rested)
      pub prepared : IsPrepared track says one
      pub behind : after.batch ≡ before.batch ++ one ∷ []
      pub sitting : after.sitting ≡ before.sitting

  -- What rests is entered or refused, and the line behind it too, or what it asks for is shown. All of it is answered by this text, once what was entered
  -- is kept.
  pub record CatchesUp (kept : P → ℕ → Type 0) (before : Hearing L P T) (line text : List ℕ) (after : Hearing L P T) : Type 0 where
    pub enters : Enters kept before.sitting (commands_resting before.batch ++ command_in before.sitting.seat.told.track line ∷ []) text after.sitting
    pub none_rests : after.batch ≡ []

  -- A line rests, or is answered together with those that rest. Where nothing has failed the next line can follow; where keeping has, the committer knows so.
  pub record Advances (track : Track) (says : T → SessionLine → Type 0) (kept : P → ℕ → Type 0) (failed : P → Type 0)
      (before : Hearing L P T) (line text : List ℕ) (after : Hearing L P T) : Type 0 where
    pub going : IsGoing track says before
    pub how : (Rests track says before line after × (text ≡ [])) ⊎ CatchesUp kept before line text after
    pub goes_on : after.sitting.has_failed ≡ false → IsGoing track says after
    pub why : after.sitting.has_failed ≡ true → failed after.sitting.committer
