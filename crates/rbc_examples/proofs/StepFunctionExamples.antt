-- Rows that make tracks and profiles, and rows that make none.
use Rattle.std.proofs.Common.{◌≡◌, ℕ, zero, suc, List, [], ◌∷◌, ◌++◌, refl, Ok, Err, Some, None, pos}
use Rattle.rbc_model.specs.declared.functions.RunsFault.TheVariants.{Empty as NoRun, NotRising as RunsNotRising, OutOfRange as RunsOutOfRange}
use Rattle.rbc_model.specs.declared.functions.ProfileFault.TheVariants.{Empty as NoStep, NotRising, OutOfRange, NotExpressible}
use Rattle.rbc_model.specs.Levels.{speed_levels, grade_levels}
use Rattle.rbc_model.specs.Profiles.{StepFunction, value_at, runs_of, profile_of}

abbrev pub Rows : Type 0
Rows = List (ℕ × ℕ)

abbrev pub function_of : Rows → ℕ → StepFunction ℕ
function_of steps end = record { steps = steps; end = end }

-- n rows, one from each metre on, at 5 km/h
abbrev pub row_each_metre : ℕ → Rows
row_each_metre zero = []
row_each_metre (suc n) = row_each_metre n ++ (n, 5) ∷ []

-- ---- values at metres

abbrev pub three : Rows
three = (0, 160) ∷ (100, 120) ∷ (150, 140) ∷ []

pub value_at_start : value_at three 0 ≡ Some 160
value_at_start = refl

pub value_before_a_start : value_at three 99 ≡ Some 160
value_before_a_start = refl

pub value_on_a_start : value_at three 100 ≡ Some 120
value_on_a_start = refl

pub value_after_the_last_start : value_at three 4000 ≡ Some 140
value_after_the_last_start = refl

pub value_before_the_first_start : value_at {V = ℕ} ((1, 160) ∷ []) 0 ≡ None
value_before_the_first_start = refl

-- ---- tracks

pub runs_of_nothing : runs_of speed_levels 300 [] ≡ Err NoRun
runs_of_nothing = refl

pub runs_not_from_zero : runs_of speed_levels 300 ((5, 160) ∷ []) ≡ Err RunsNotRising
runs_not_from_zero = refl

pub runs_at_one_start : runs_of speed_levels 300 ((0, 160) ∷ (0, 120) ∷ []) ≡ Err RunsNotRising
runs_at_one_start = refl

pub runs_falling : runs_of speed_levels 300 ((0, 160) ∷ (200, 120) ∷ (100, 140) ∷ []) ≡ Err RunsNotRising
runs_falling = refl

-- the starts are looked at before the end
pub runs_falling_beyond_the_end : runs_of speed_levels 100 ((0, 160) ∷ (200, 120) ∷ (150, 140) ∷ []) ≡ Err RunsNotRising
runs_falling_beyond_the_end = refl

pub runs_to_the_end : runs_of speed_levels 300 ((0, 160) ∷ (300, 120) ∷ []) ≡ Err RunsOutOfRange
runs_to_the_end = refl

pub runs_over_no_metre : runs_of speed_levels 0 ((0, 160) ∷ []) ≡ Err RunsOutOfRange
runs_over_no_metre = refl

pub runs_too_long : runs_of speed_levels 100001 ((0, 160) ∷ []) ≡ Err RunsOutOfRange
runs_too_long = refl

pub runs_as_long_as_may_be : runs_of speed_levels 100000 ((0, 160) ∷ (99999, 120) ∷ []) ≡ Ok (function_of ((0, 160) ∷ (99999, 120) ∷ []) 100000)
runs_as_long_as_may_be = refl

-- neighbours of one value are one run, and others are kept, also where a value comes again
pub runs_joined : runs_of speed_levels 300 ((0, 160) ∷ (50, 160) ∷ (100, 120) ∷ (150, 160) ∷ (200, 160) ∷ (250, 160) ∷ []) ≡ Ok (function_of ((0, 160) ∷ (100, 120) ∷ (150, 160) ∷ []) 300)
runs_joined = refl

-- ---- profiles

pub profile_of_nothing : profile_of speed_levels 300 [] ≡ Err NoStep
profile_of_nothing = refl

pub profile_not_from_zero : profile_of speed_levels 300 ((5, 162) ∷ []) ≡ Err NotRising
profile_not_from_zero = refl

pub profile_to_the_end : profile_of speed_levels 300 ((0, 160) ∷ (300, 122) ∷ []) ≡ Err OutOfRange
profile_to_the_end = refl

pub profile_not_expressible : profile_of speed_levels 300 ((0, 160) ∷ (100, 122) ∷ []) ≡ Err NotExpressible
profile_not_expressible = refl

-- neighbours of one value stay two steps
pub profile_of_equal_neighbours : profile_of speed_levels 300 ((0, 160) ∷ (100, 160) ∷ []) ≡ Ok (function_of ((0, 160) ∷ (100, 160) ∷ []) 300)
profile_of_equal_neighbours = refl

pub profile_of_31_steps : profile_of speed_levels 300 (row_each_metre 31) ≡ Ok (function_of (row_each_metre 31) 300)
profile_of_31_steps = refl

pub profile_of_32_steps : profile_of speed_levels 300 (row_each_metre 32) ≡ Err OutOfRange
profile_of_32_steps = refl

-- every gradient can be expressed
pub profile_of_gradients : profile_of grade_levels 300 ((0, pos 7) ∷ []) ≡ Ok (record { steps = (0, pos 7) ∷ []; end = 300 })
profile_of_gradients = refl
