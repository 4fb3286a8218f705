use Rattle.std.proofs.Common.{◌-◌, ◌≡◌, ◌^◌, ◌<◌, ◌++◌}
use Rattle.rbc_model.specs.Bits.{bits_of, byte_bits}
use Rattle.rbc_bits.proofs.reader.begun.Given as goal

abbrev pub invariant-loop-count : goal.invariant-loop-count
invariant-loop-count l = record {
  bits : bits_of l.count l.number ++ byte_bits l.rest ≡ bits_of l.filled l.pending ++ byte_bits l.bytes;
  number : l.number < 2 ^ l.count;
  count : l.count < 64;
}

abbrev pub decreases-loop-count : goal.decreases-loop-count
decreases-loop-count l = 56 - l.count
