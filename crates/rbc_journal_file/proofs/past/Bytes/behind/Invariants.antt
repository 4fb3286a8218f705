use Rattle.std.proofs.Common.{◌≡◌, ◌++◌, take}
use Rattle.rbc_journal_file.specs.Past.{listed}
use Rattle.rbc_journal_file.proofs.past.Bytes.behind.Given as goal

abbrev pub invariant-loop-byte : goal.invariant-loop-byte
invariant-loop-byte l = listed l.listed.value ≡ listed l.fn.front.value ++ take l.byte-index l.bytes
