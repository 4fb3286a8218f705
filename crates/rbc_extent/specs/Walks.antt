-- A line that is walked along and not built: known legs, one leg more, and as many as were gained along the locks, behind and ahead.
use Rattle.std.specs.Prelude.{◌≡◌, ℕ, zero, suc, [], ◌∷◌, ◌++◌, length, Some}
use Rattle.std.specs.Option.{option_map_or}
use Rattle.rbc_model.specs.declared.places.Leg.{Leg}
use Rattle.rbc_model.specs.Tracks.{Track}
use Rattle.rbc_model.specs.SoundTracks.{IsInForm, IsSound}
use Rattle.rbc_model.specs.Lines.{Line, IsLine, line_length, first_leg, last_leg}
use Rattle.rbc_model.specs.Locks.{Locks, next, prev}
use Rattle.rbc_line.specs.OnTracks.{LineOnTrack}
use Rattle.rbc_scene_laws.specs.Good.{IsGoodLocks}

-- this many legs that are locked one behind the other, the first behind this one, or all there are if these are fewer
abbrev pub legs_ahead : Locks → Leg → ℕ → Line
legs_ahead locks leg zero = []
legs_ahead locks leg (suc n) = option_map_or (λ more. more ∷ legs_ahead locks more n) (next locks leg) []

-- the legs that this one is locked behind, one after the other, in the order of running
abbrev pub legs_behind : Locks → Leg → ℕ → Line
legs_behind locks leg zero = []
legs_behind locks leg (suc n) = option_map_or (λ before. legs_behind locks before n ++ before ∷ []) (prev locks leg) []

-- the first of the known legs and the one behind them
abbrev pub head : Line → Leg → Leg
head [] turn = turn
head (leg ∷ known) turn = leg

-- all legs
abbrev pub walked_legs : Locks → Line → Leg → ℕ → ℕ → Line
walked_legs locks known turn behind ahead = legs_behind locks (head known turn) behind ++ (known ++ turn ∷ legs_ahead locks turn ahead)

-- a walk: its line, the locks that it goes along, and how many legs were gained behind
pub record Walked : Type 0 where
  pub line : LineOnTrack
  pub locks : Locks
  pub behind : ℕ

-- a walk on the same track along the same locks
pub record IsSameWay (old new : Walked) : Type 0 where
  pub track : new.line.track ≡ old.line.track
  pub locks : new.locks ≡ old.locks

-- a walk whose legs these are, the first and the last of them, and how many metres they have
pub record IsWalk (track : Track) (locks : Locks) (known : Line) (turn : Leg) (behind ahead : ℕ) (first last : Leg) (metres : ℕ) : Type 0 where
  pub form : IsInForm track
  pub sound : IsSound track
  pub good : IsGoodLocks track locks
  pub line : IsLine track (walked_legs locks known turn behind ahead)
  pub begins : first_leg (walked_legs locks known turn behind ahead) ≡ Some first
  pub ends : last_leg (walked_legs locks known turn behind ahead) ≡ Some last
  pub all_behind : length (legs_behind locks (head known turn) behind) ≡ behind
  pub all_ahead : length (legs_ahead locks turn ahead) ≡ ahead
  pub long : metres ≡ line_length track (walked_legs locks known turn behind ahead)
