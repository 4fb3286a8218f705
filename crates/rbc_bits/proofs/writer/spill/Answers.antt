use Rattle.std.proofs.Common.{◌≡◌, ◌+◌, ◌-◌, ◌^◌, ◌++◌, true, is_ok, arith, ap, ◌∙◌}
use Rattle.std.proofs.lemmas.Nat.{one_shl, mod_below, pow_pos, shr_below}
use Rattle.rbc_model.specs.Bits.{bits_of, byte_bits}
use Rattle.rbc_bits.proofs.CutLemmas.{whole_byte}
use Rattle.rbc_bits.proofs.writer.spill.Goals as goal

pub overflow_cast-pending : goal.overflow_cast-pending
overflow_cast-pending c =
    let rest = c.loop-filled.filled - 8 in
    let whole : 8 + rest ≡ c.loop-filled.filled = omega arith in
    record { fits = shr_below c.loop-filled.pending 8 rest (rw whole c.loop-filled.invariant.pending) }

pub loop-filled-preserved : goal.loop-filled-preserved
loop-filled-preserved c =
    let bytes = c.loop-filled.bytes in
    let rest = c.loop-filled.filled - 8 in
    let pushed : is_ok c.push.result ≡ true = c.push.ensures.succeeds (omega arith) in
    let whole : 8 + rest ≡ c.loop-filled.filled = omega arith in
    rw (c.push.ensures.items, pushed, one_shl rest 64 (omega arith)) record {
      bits = whole_byte bytes.items rest c.loop-filled.pending ∙ ap (λ n. byte_bits bytes.items ++ bits_of n c.loop-filled.pending) whole ∙ c.loop-filled.invariant.bits;
      pending = mod_below c.loop-filled.pending (2 ^ rest) (pow_pos rest);
      filled = omega arith;
      room = omega (arith, c.push.ensures.upper_bound, c.push.ensures.capacity);
    }
