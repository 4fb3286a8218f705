-- What the speeds and the gradients of a section keep.
use Rattle.std.specs.Prelude.{◌≡◌, ◌≤◌, ℕ, ℤ}
use Rattle.rbc_model.specs.Levels.{speed_levels, grade_levels}
use Rattle.rbc_model.specs.Profiles.{StepFunction, IsTrackFunction}
use Rattle.rbc_model.specs.declared.limits.TheConstants.{LONGEST_TRACK}

-- they end at the same metre
pub record IsSection (speeds : StepFunction ℕ) (grades : StepFunction ℤ) : Type 0 where
  pub ends : grades.end ≡ speeds.end
  pub at_most : speeds.end ≤ LONGEST_TRACK
  pub speeds_cover : IsTrackFunction speed_levels speeds.end speeds.steps
  pub grades_cover : IsTrackFunction grade_levels speeds.end grades.steps
