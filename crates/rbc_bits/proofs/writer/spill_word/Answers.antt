use Rattle.std.proofs.Common.{◌≡◌, ◌+◌, ◌-◌, ◌++◌, true, is_ok, arith, ap, ◌∙◌}
use Rattle.std.proofs.lemmas.Nat.{one_shl, shr_below}
use Rattle.rbc_model.specs.Bits.{bits_of, byte_bits}
use Rattle.rbc_bits.proofs.CutLemmas.{whole_word}
use Rattle.rbc_bits.proofs.writer.spill_word.Goals as goal

pub overflow_cast-pending : goal.overflow_cast-pending
overflow_cast-pending c =
    let left = c.args.filled - 32 in
    let whole : 32 + left ≡ c.args.filled = omega arith in
    record { fits = shr_below c.args.pending 32 left (rw whole c.requires.fits) }

pub returns-clause-bits : goal.returns-clause-bits
returns-clause-bits c =
    let bytes = c.args.bytes.now in
    let left = c.args.filled - 32 in
    let whole : 32 + left ≡ c.args.filled = omega arith in
    let written : is_ok c.extend_from_slice.result ≡ true = c.extend_from_slice.ensures.succeeds (omega arith) in
    rw (c.extend_from_slice.ensures.items, written, c.to_be_bytes.ensures, one_shl left 64 (omega arith))
    (whole_word bytes.items left c.args.pending ∙ ap (λ n. byte_bits bytes.items ++ bits_of n c.args.pending) whole)
