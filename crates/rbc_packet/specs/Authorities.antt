-- An authority with its parts.
use Rattle.std.specs.Prelude.{ℕ, Bool, ℤ}
use Rattle.rbc_model.specs.GroupNames.{GroupName}
use Rattle.rbc_model.specs.Messages.{Authority}
use Rattle.rbc_model.specs.Profiles.{StepFunction}

-- the authority with these parts, up to the end of its speeds
abbrev pub authority_with : ℕ → GroupName → Bool → StepFunction ℕ → StepFunction ℤ → Authority
authority_with time group nominal speeds grades =
    record { time = time; group = group; nominal = nominal; end = speeds.end; speeds = speeds.steps; grades = grades.steps }
