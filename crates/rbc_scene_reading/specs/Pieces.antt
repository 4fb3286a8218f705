-- A line that is told in pieces.
use Rattle.std.specs.Prelude.{ℕ, ◌&&◌, ◌==◌, ◌++◌, Bool, nat_le, nat_lt, length}
use Rattle.rbc_model.specs.declared.limits.TheConstants.{LEGS_A_LINE}
use Rattle.rbc_model.specs.Lines.{Line}
use Rattle.rbc_scene_reading.specs.Running.{Running}

-- whether a line of text may tell so many legs, and whether it tells as many as it may
abbrev pub fits : Line → Bool
fits legs = nat_le (length legs) LEGS_A_LINE

abbrev pub is_full : Line → Bool
is_full legs = length legs == LEGS_A_LINE

-- whether another piece of its line may be of this train and of these legs: the last one was full
abbrev pub may_go_on : ℕ → Running → Line → Bool
may_go_on train running legs = train == running.report.train && running.full && nat_lt 0 (length legs) && fits legs

-- the train with a piece of its line more
abbrev pub with_legs : Running → Line → Running
with_legs running legs = record { report = running.report; origin = running.origin; legs = running.legs ++ legs; full = is_full legs }
