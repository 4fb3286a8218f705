-- What a candidate is: what may be granted to a train that was shown a view.
use Rattle.std.specs.Prelude.{◌≡◌, ℕ, List, pos, ◌-ℤ◌}
use Rattle.rbc_model.specs.Levels.{speed_levels, grade_levels}
use Rattle.rbc_model.specs.Histories.{Grants}
use Rattle.rbc_model.specs.Messages.{Authority, message_bytes}
use Rattle.rbc_model.specs.PriceTables.{IsGreatestSoundTable}
use Rattle.rbc_model.specs.Profiles.{IsChosenProfile, loss, value_at}
use Rattle.rbc_model.specs.Scales.{unit_of}
use Rattle.rbc_model.specs.Views.{View}
use Rattle.rbc_grant_laws.specs.Candidates.{IsCandidateOf}
use Rattle.rbc_reduce.specs.Rows.{prices_of}
use Rattle.rbc_grant.specs.declared.certificates.Losses.{Losses}
use Rattle.rbc_grant.specs.declared.certificates.PriceTables.{PriceTables}

-- a view, the version of the history that it was taken at, and what may be granted for it
pub record Candidate : Type 0 where
  pub view : View
  pub version : ℕ
  pub grant : Grants

-- the authority as a grant to the train that was shown the view
abbrev pub granted : View → Authority → Grants
granted view authority = record {
  train = view.train;
  from = pos view.start -ℤ pos view.origin;
  authority = authority;
  obstacle = view.obstacle;
}

-- Of the best profiles for the view's speeds and gradients the grant has those that the rules choose.
pub record HasChosenProfiles (view : View) (grant : Grants) : Type 0 where
  pub speeds : IsChosenProfile speed_levels (unit_of grant.authority.end) view.speed_steps grant.authority.end (value_at view.speeds) grant.authority.speeds
  pub grades : IsChosenProfile grade_levels (unit_of grant.authority.end) view.grade_steps grant.authority.end (value_at view.grades) grant.authority.grades

-- The losses told are those of the grant's profiles.
pub record AreLosses (view : View) (grant : Grants) (lost : Losses) : Type 0 where
  pub speeds : lost.speeds ≡ loss speed_levels grant.authority.end (value_at view.speeds) grant.authority.speeds
  pub grades : lost.grades ≡ loss grade_levels grant.authority.end (value_at view.grades) grant.authority.grades

-- The tables are the greatest sound ones for the view's speeds and gradients up to the grant's end.
pub record AreGreatestTables (view : View) (grant : Grants) (tables : PriceTables) : Type 0 where
  pub speeds : IsGreatestSoundTable speed_levels (unit_of grant.authority.end) view.speed_steps grant.authority.end view.speeds (prices_of tables.speeds.items)
  pub grades : IsGreatestSoundTable grade_levels (unit_of grant.authority.end) view.grade_steps grant.authority.end view.grades (prices_of tables.grades.items)

-- What a candidate keeps: it is one of its view, with the chosen profiles, the message of its authority, and what shows
-- that no profiles lose less.
pub record IsCandidate (view : View) (grant : Grants) (bytes : List ℕ) (lost : Losses) (tables : PriceTables) : Type 0 where
  pub best : IsCandidateOf view grant
  pub chosen : HasChosenProfiles view grant
  pub message : bytes ≡ message_bytes grant.authority
  pub losses : AreLosses view grant lost
  pub prices : AreGreatestTables view grant tables
