use Rattle.std.proofs.Common.{◌≡◌, ◌++◌, take}
use Rattle.rbc_viewer.specs.Given.{listed}
use Rattle.rbc_viewer.proofs.given.Given.with.Given as goal

abbrev pub invariant-loop-byte : goal.invariant-loop-byte
invariant-loop-byte l = listed l.all.value ≡ listed l.fn.before.value ++ take l.byte-index l.bytes
