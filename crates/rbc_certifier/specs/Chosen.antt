-- What was chosen for the track of a request, and what answers each request whose runs make that track.
use Rattle.std.specs.Prelude.{◌≡◌, ℕ, List, Ok}
use Rattle.rbc_model.specs.Kinds.{Kind}
use Rattle.rbc_model.specs.Levels.{Levels}
use Rattle.rbc_model.specs.PriceTables.{IsGreatestSoundTable}
use Rattle.rbc_model.specs.Profiles.{StepFunction, value_at, loss, runs_of, IsChosenProfile}
use Rattle.rbc_model.specs.Scales.{unit_of}
use Rattle.rbc_model.specs.StepsReply.{AnswersRequest}

-- The profile is the one that the rules choose for the track, this is what it loses, and the rows are the greatest sound table.
pub record IsChosenFor {V : Type 0} (levels : Levels V) (limit : ℕ) (track profile : StepFunction V) (lost : ℕ) (rows : List (List ℕ)) : Type 0 where
  pub chosen : IsChosenProfile levels (unit_of track.end) limit track.end (value_at track.steps) profile.steps
  pub ends : profile.end ≡ track.end
  pub loses : lost ≡ loss levels track.end (value_at track.steps) profile.steps
  pub greatest : IsGreatestSoundTable levels (unit_of track.end) limit track.end track.steps rows

-- The bytes answer each request with this limit whose runs make the track.
abbrev pub AnswersFor : {V : Type 0} → Kind V → Levels V → ℕ → StepFunction V → List ℕ → Type 0
AnswersFor {V} kind levels limit track reply = (runs : List (ℕ × V)) (end : ℕ) → runs_of levels end runs ≡ Ok track
    → AnswersRequest kind (record { limit = limit; runs = runs; end = end }) reply
