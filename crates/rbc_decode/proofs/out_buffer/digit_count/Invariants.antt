use Rattle.std.proofs.Common.{◌≡◌, ◌+◌, ◌≤◌, length, decimal}
use Rattle.rbc_decode.proofs.out_buffer.digit_count.Given as goal

abbrev pub invariant-loop-left : goal.invariant-loop-left
invariant-loop-left l = record {
  digits : l.count + length (decimal l.left) ≡ length (decimal l.number) + 1;
  few : l.count ≤ 20;
}

abbrev pub decreases-loop-left : goal.decreases-loop-left
decreases-loop-left l = l.left
