-- What the last call of a reader or a writer is noted as, and which read finds the end of an input.
use Rattle.std.specs.Prelude.{ℕ, Bool, true, false, ◌==◌, ◌&&◌, nat_lt, if◌then◌else◌, Result, Ok, Err}
use Rattle.rbc_streams.specs.declared.retried.LastCall.{LastCall}
use Rattle.rbc_streams.specs.declared.retried.LastCall.TheVariants.{NoCall, Bytes, NoByte, Fault}

-- whether a read into so much room finds the end: it gives no byte, though there is room for one
abbrev pub finds_end : {E : Type 0} → Result ℕ E → ℕ → Bool
finds_end (Ok count) room = count == 0 && nat_lt 0 room
finds_end (Err fault) room = false

-- a call that may give or take so many bytes, as it is noted
abbrev pub noted : {E : Type 0} → Result ℕ E → ℕ → LastCall
noted (Ok count) room = if count == 0 && nat_lt 0 room then NoByte else Bytes
noted (Err fault) room = Fault

-- a call that hands on what was written, as it is noted: it takes no byte
abbrev pub noted_flush : {A E : Type 0} → Result A E → LastCall
noted_flush (Ok done) = Bytes
noted_flush (Err fault) = Fault

-- whether the reader inside found the end, when it was called last
abbrev pub is_end : LastCall → Bool
is_end NoByte = true
is_end NoCall = false
is_end Bytes = false
is_end Fault = false

-- whether it failed
abbrev pub is_fault : LastCall → Bool
is_fault Fault = true
is_fault NoCall = false
is_fault Bytes = false
is_fault NoByte = false
