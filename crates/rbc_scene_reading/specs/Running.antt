-- A train whose line is being told.
use Rattle.std.specs.Prelude.{ℕ, Bool}
use Rattle.rbc_model.specs.Reports.{Report}
use Rattle.rbc_model.specs.Lines.{Line}

-- its report, how many metres behind the start of its line its group stands, its legs so far, and whether the last piece of them was full
pub record Running : Type 0 where
  pub report : Report
  pub origin : ℕ
  pub legs : Line
  pub full : Bool
