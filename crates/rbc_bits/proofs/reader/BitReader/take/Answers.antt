use Rattle.std.proofs.Common.{◌≡◌, ◌+◌, ◌-◌, ◌/◌, ◌^◌, ◌<◌, length, arith, lit<, ◌∙◌}
use Rattle.std.proofs.Math.Nat.{pow-le-pow_right}
use Rattle.std.proofs.lemmas.Nat.{shr_below, one_shl}
use Rattle.rbc_model.specs.Bits.{byte_bits}
use Rattle.rbc_model.proofs.MessageSizeLemmas.{length-byte_bits}
use Rattle.rbc_bits.proofs.TakingLemmas.{taken_value, left_bits, length_left}
use Rattle.rbc_bits.proofs.reader.BitReader.take.Goals as goal

pub returns-then-filled-width-clause-short : goal.returns-then-filled-width-clause-short
returns-then-filled-width-clause-short c =
    let begun = c.begun-pending in
    let few : begun.result.2 < c.args.width = omega arith in
    let none : length begun.result.0.now ≡ 0 = begun.ensures.all few in
    omega (arith, length_left begun.result.2 begun.result.1 (byte_bits begun.result.0.now) c.args.self.now (begun.ensures.bits ∙ c.self.view_is), length-byte_bits begun.result.0.now)

pub overflow_cast-result-2 : goal.overflow_cast-result-2
overflow_cast-result-2 c =
    let begun = c.begun-pending in
    let left = begun.result.2 - c.args.width in
    let whole : c.args.width + left ≡ begun.result.2 = omega arith in
    let below : begun.result.1 / 2 ^ left < 2 ^ c.args.width = shr_below begun.result.1 c.args.width left (rw whole begun.ensures.fits) in
    record { fits = omega (arith, pow-le-pow_right {n = 2} (lit< tt) {i = c.args.width} {j = 32} c.requires) }

pub returns-clause-value : goal.returns-clause-value
returns-clause-value c =
    let begun = c.begun-pending in
    let left = begun.result.2 - c.args.width in
    let whole : c.args.width + left ≡ begun.result.2 = omega arith in
    taken_value c.args.width left begun.result.1 (byte_bits begun.result.0.now) c.args.self.now (rw whole begun.ensures.fits) (rw whole (begun.ensures.bits ∙ c.self.view_is))

pub returns-clause-fits : goal.returns-clause-fits
returns-clause-fits c =
    let begun = c.begun-pending in
    let left = begun.result.2 - c.args.width in
    let whole : c.args.width + left ≡ begun.result.2 = omega arith in
    shr_below begun.result.1 c.args.width left (rw whole begun.ensures.fits)

pub returns-clause-rest : goal.returns-clause-rest
returns-clause-rest c =
    let begun = c.begun-pending in
    let left = begun.result.2 - c.args.width in
    let whole : c.args.width + left ≡ begun.result.2 = omega arith in
    rw (one_shl left 64 (omega arith)) (left_bits c.args.width left begun.result.1 (byte_bits begun.result.0.now) c.args.self.now (rw whole (begun.ensures.bits ∙ c.self.view_is)))

pub returns-clause-enough : goal.returns-clause-enough
returns-clause-enough c =
    let begun = c.begun-pending in
    omega (arith, length_left begun.result.2 begun.result.1 (byte_bits begun.result.0.now) c.args.self.now (begun.ensures.bits ∙ c.self.view_is))
