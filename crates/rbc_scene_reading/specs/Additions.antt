-- What a call that adds a line answers, and what it leaves.
use Rattle.std.specs.Prelude.{◌≡◌, ℕ, Result, Ok, Err}
use Rattle.rbc_model.specs.declared.memory.OrMemory.{OrMemory}
use Rattle.rbc_model.specs.declared.memory.OrMemory.TheVariants.{Refused, Memory}
use Rattle.rbc_scene_reading.specs.declared.fault.FaultyLine.{FaultyLine}
use Rattle.rbc_scene_reading.specs.declared.fault.SceneFault.{SceneFault}

-- The call left the value that the definition names, or it was refused as the definition says, and the value is of no use.
abbrev pub AddsTo : {X E : Type 0} → Result (Unit {0}) E → X → Result X E → Type 0
AddsTo (Ok done) new answer = answer ≡ Ok new
AddsTo (Err fault) new answer = answer ≡ Err fault

-- the fault of the line of this number, or want of memory
abbrev pub at_line_or_memory : ℕ → OrMemory SceneFault → OrMemory FaultyLine
at_line_or_memory line (Refused fault) = Refused (record { line = line; fault = fault })
at_line_or_memory line Memory = Memory
