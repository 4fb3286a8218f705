-- What a reduction finds for the speeds or the gradients that a view shows.
use Rattle.std.specs.Prelude.{◌≡◌, ℕ, ℤ, List}
use Rattle.std.specs.Global.{Vec}
use Rattle.rbc_model.specs.Levels.{Levels, speed_levels, grade_levels}
use Rattle.rbc_model.specs.PriceTables.{IsGreatestSoundTable}
use Rattle.rbc_model.specs.Profiles.{StepFunction, IsChosenProfile, loss, value_at}
use Rattle.rbc_model.specs.Scales.{unit_of}
use Rattle.rbc_model.specs.Views.{View}
use Rattle.rbc_reach.specs.Forms.{metres_shown}
use Rattle.rbc_reduce.specs.Rows.{prices_of}

-- The profile is the chosen one of the track, and ends where it does; this is its loss, and this the greatest sound table.
module _ {V : Type 0} (levels : Levels V) (unit limit : ℕ) (track : StepFunction V) where
  pub record IsReduction (profile : StepFunction V) (lost : ℕ) (rows : List (Vec ℕ)) : Type 0 where
    pub chosen : IsChosenProfile levels unit limit track.end (value_at track.steps) profile.steps
    pub end : profile.end ≡ track.end
    pub loss : lost ≡ loss levels track.end (value_at track.steps) profile.steps
    pub prices : IsGreatestSoundTable levels unit limit track.end track.steps (prices_of rows)

-- the speeds and the gradients that a view shows
abbrev pub speeds_shown : View → StepFunction ℕ
speeds_shown view = record { steps = view.speeds; end = metres_shown view }

abbrev pub grades_shown : View → StepFunction ℤ
grades_shown view = record { steps = view.grades; end = metres_shown view }

-- it is a reduction of the speeds that the view shows
abbrev pub ReducesSpeeds : View → StepFunction ℕ → ℕ → List (Vec ℕ) → Type 0
ReducesSpeeds view = IsReduction speed_levels (unit_of (metres_shown view)) view.speed_steps (speeds_shown view)

-- it is one of the gradients
abbrev pub ReducesGrades : View → StepFunction ℤ → ℕ → List (Vec ℕ) → Type 0
ReducesGrades view = IsReduction grade_levels (unit_of (metres_shown view)) view.grade_steps (grades_shown view)
