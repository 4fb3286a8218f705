-- Words that are read one after the other.
use Rattle.std.proofs.Common.{◌≡◌, ◌+◌, Bool, false, List, ◌++◌, Result, Ok}
use Rattle.std.specs.Result.{result_err}
use Rattle.rbc_model.specs.declared.refusals.LineFault.{LineFault}
use Rattle.rbc_model.specs.Results.{◌>>=◌}

-- what is read with this in front
abbrev pub with_front : {A : Type 0} → List A → Result (List A) LineFault → Result (List A) LineFault
with_front front read = read >>= λ rest. Ok (front ++ rest)

-- All words read as those left do, with what was read so far in front; where memory was refused, that is lost, but no fault.
pub record IsSoFar {A : Type 0} (all left : Result (List A) LineFault) (refused : Bool) (front : List A) : Type 0 where
  pub kept : refused ≡ false → all ≡ with_front front left
  pub faults : result_err all ≡ result_err left
