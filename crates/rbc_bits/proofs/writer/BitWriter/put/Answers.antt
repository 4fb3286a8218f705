use Rattle.std.proofs.Common.{◌≡◌, ◌+◌, ◌^◌, ◌<◌, ◌≤◌, ◌++◌, arith, ap, sym, ◌∙◌, append_assoc}
use Rattle.rbc_model.specs.Bits.{bits_of, byte_bits}
use Rattle.rbc_bits.proofs.CutLemmas.{bits_of-joined, joined_number, joined_number-below}
use Rattle.rbc_bits.proofs.writer.BitWriter.put.Goals as goal
use Rattle.rbc_bits.proofs.writer.BitWriter.put.Goals.{then-self-width-gt-BITS, else-self-width-gt-BITS}

pub invariant_of-self-2 : goal.invariant_of-self-2
invariant_of-self-2 c =
    let w = c.if-self-width-gt-BITS.self-inside in
    let fits : (w.pending < 2 ^ w.filled) × (w.filled + c.args.width ≤ 64) = elim c.if-self-width-gt-BITS.branch [
      | then-self-width-gt-BITS s ↦ rw s.self-inside-is (s.spill_word-self-inside.ensures.fits, omega (arith, c.self.invariant.0, c.requires.at_most_32))
      | else-self-width-gt-BITS s ↦ rw s.self-inside-is (c.self.invariant.1, omega (arith, s.if-self-width-gt-BITS))
    ] in
    let joined = joined_number w.filled c.args.width w.pending c.args.value fits.0 c.requires.fits fits.1 in
    rw (c.from.ensures, joined)
    (fits.1, joined_number-below w.filled c.args.width w.pending c.args.value fits.0 c.requires.fits, omega (arith, c.div_ceil.ensures, c.in_ok-reserve.ensures.ok))

pub returns-clause-written : goal.returns-clause-written
returns-clause-written c =
    let w = c.if-self-width-gt-BITS.self-inside in
    let fits : (w.pending < 2 ^ w.filled) × (w.filled + c.args.width ≤ 64) × (byte_bits w.bytes.items ++ bits_of w.filled w.pending ≡ c.args.self.now) = elim c.if-self-width-gt-BITS.branch [
      | then-self-width-gt-BITS s ↦ rw s.self-inside-is (s.spill_word-self-inside.ensures.fits, omega (arith, c.self.invariant.0, c.requires.at_most_32), s.spill_word-self-inside.ensures.bits ∙ c.self.view_is)
      | else-self-width-gt-BITS s ↦ rw s.self-inside-is (c.self.invariant.1, omega (arith, s.if-self-width-gt-BITS), c.self.view_is)
    ] in
    let joined = joined_number w.filled c.args.width w.pending c.args.value fits.0 c.requires.fits fits.1 in
    rw (c.from.ensures, joined, c.in_ok-reserve.ensures.items)
    (ap (λ bits. byte_bits w.bytes.items ++ bits) (bits_of-joined w.filled c.args.width w.pending c.args.value c.requires.fits)
    ∙ sym (append_assoc (byte_bits w.bytes.items) (bits_of w.filled w.pending) (bits_of c.args.width c.args.value))
    ∙ ap (λ bits. bits ++ bits_of c.args.width c.args.value) fits.2)
