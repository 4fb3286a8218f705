use Rattle.std.proofs.Common.{◌+◌, ◌≡◌, ◌^◌, ◌<◌, ◌≤◌, ◌++◌, vec_len, vec_capacity}
use Rattle.rbc_model.specs.Bits.{bits_of, byte_bits, byte_count}
use Rattle.rbc_bits.proofs.writer.spill.Given as goal

abbrev pub invariant-loop-filled : goal.invariant-loop-filled
invariant-loop-filled l = record {
  bits : byte_bits l.bytes.items ++ bits_of l.filled l.pending ≡ byte_bits l.fn.bytes.items ++ bits_of l.fn.filled l.fn.pending;
  pending : l.pending < 2 ^ l.filled;
  filled : l.filled ≤ 64;
  room : vec_len l.bytes + byte_count l.filled ≤ vec_capacity l.bytes;
}

abbrev pub decreases-loop-filled : goal.decreases-loop-filled
decreases-loop-filled l = l.filled
