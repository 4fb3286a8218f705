-- Columns of a table: one for each stretch of a track.
use Rattle.std.specs.Prelude.{ℕ, ◌-◌, length, slice_index}
use Rattle.rbc_model.specs.Scales.{unit_of}
use Rattle.rbc_model.specs.Profiles.{StepFunction}
use Rattle.rbc_table_laws.specs.Stretches.{breaks_for}
use Rattle.rbc_stretches.specs.OnTracks.{IsStretch}
use Rattle.rbc_price.specs.declared.columns.Column.{Column}

-- how many stretches lie between the breaks of a track
abbrev pub stretches_of : {V : Type 0} → StepFunction V → ℕ
stretches_of track = length (breaks_for (unit_of track.end) track) - 1

-- the metre of a break
abbrev pub break_metre : {V : Type 0} → StepFunction V → ℕ → ℕ
break_metre track i = slice_index (breaks_for (unit_of track.end) track) i

-- The column's stretch is the one that starts at the break of its number.
abbrev pub IsColumn : {V : Type 0} → StepFunction V → Column → Type 0
IsColumn track column = IsStretch (unit_of track.end) track column.index column.stretch
