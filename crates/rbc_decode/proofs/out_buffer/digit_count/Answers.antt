use Rattle.std.proofs.Common.{◌/◌, arith}
use Rattle.std.proofs.lemmas.Fmt.{length-decimal-le, decimal_nonempty}
use Rattle.rbc_decode.proofs.OutBufferLemmas.{one_digit_fewer}
use Rattle.rbc_decode.proofs.out_buffer.digit_count.Goals as goal

pub loop-left-preserved : goal.loop-left-preserved
loop-left-preserved c =
    let l = c.loop-left in
    let fewer = one_digit_fewer l.left (omega arith) (omega arith) in
    let some = decimal_nonempty (l.left / 10) (omega arith) in
    let most = length-decimal-le 20 c.args.number (omega arith) (omega arith) (omega arith) in
    record { digits = omega (arith, fewer, l.invariant.digits); few = omega (arith, fewer, l.invariant.digits, some, most) }

pub returns-clause-count : goal.returns-clause-count
returns-clause-count c =
    let l = c.loop-left in
    let some = decimal_nonempty l.left (omega arith) in
    let one = length-decimal-le 1 l.left (omega arith) (omega arith) (omega arith) in
    omega (arith, l.invariant.digits, some, one)
