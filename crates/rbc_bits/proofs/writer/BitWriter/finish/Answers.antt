use Rattle.std.proofs.Common.{◌≡◌, ◌+◌, ◌-◌, ◌*◌, ◌^◌, ◌%◌, ◌<◌, ◌++◌, ◌∷◌, [], true, is_ok, arith, ap, sym, subst, ◌∙◌, pow_pos}
use Rattle.std.proofs.lemmas.Nat.{shl_whole}
use Rattle.rbc_model.specs.Bits.{bits_of, byte_bits, bytes_of, padded_bits}
use Rattle.rbc_bits.proofs.CutLemmas.{bytes_within, bytes_of-whole, bytes_of-filled, joined_number-below}
use Rattle.rbc_bits.proofs.writer.BitWriter.finish.Goals as goal

pub overflow_cast-pending : goal.overflow_cast-pending
overflow_cast-pending c =
    let pending = c.spill-pending.result.0 in
    let filled = c.spill-pending.result.1 in
    let missing = 8 - filled in
    let below = c.spill-pending.ensures.fits in
    let few = c.spill-pending.ensures.few in
    let shifted : pending * 2 ^ missing % 2 ^ 64 ≡ pending * 2 ^ missing = shl_whole pending filled missing 64 below (omega (arith, few)) in
    let whole : filled + missing ≡ 8 = omega (arith, few) in
    let byte : pending * 2 ^ missing + 0 < 2 ^ 8 = subst (λ n. pending * 2 ^ missing + 0 < 2 ^ n) whole (joined_number-below filled missing pending 0 below (pow_pos missing)) in
    record { fits = omega (arith, shifted, byte) }

pub returns-then-filled-gt0 : goal.returns-then-filled-gt0
returns-then-filled-gt0 c =
    let pending = c.spill-pending.result.0 in
    let filled = c.spill-pending.result.1 in
    let bytes = c.spill-pending.new.bytes.items in
    let missing = 8 - filled in
    let few = c.spill-pending.ensures.few in
    let pushed : is_ok c.push.result ≡ true = c.push.ensures.succeeds (omega (arith, c.spill-pending.ensures.room)) in
    let shifted : pending * 2 ^ missing % 2 ^ 64 ≡ pending * 2 ^ missing = shl_whole pending filled missing 64 c.spill-pending.ensures.fits (omega (arith, few)) in
    let all : c.push.new.self.items ≡ bytes ++ (pending * 2 ^ missing) ∷ [] = (rw pushed at c.push.ensures.items) ∙ ap (λ byte. bytes ++ byte ∷ []) shifted in
    let valid = bytes_within c.push.new.self.items (λ i inside. omega arith) in
    sym (ap (λ bits. bytes_of (padded_bits bits)) (sym (c.spill-pending.ensures.bits ∙ c.self.view_is))
    ∙ bytes_of-filled bytes c.push.new.self.items filled missing pending (omega (arith, few)) (omega (arith, few)) all valid)

pub returns-else-filled-gt0 : goal.returns-else-filled-gt0
returns-else-filled-gt0 c =
    let pending = c.spill-pending.result.0 in
    let bytes = c.spill-pending.new.bytes.items in
    let none : c.spill-pending.result.1 ≡ 0 = omega arith in
    let valid = bytes_within bytes (λ i inside. omega arith) in
    sym (ap (λ bits. bytes_of (padded_bits bits)) (sym (c.spill-pending.ensures.bits ∙ c.self.view_is))
    ∙ ap (λ n. bytes_of (padded_bits (byte_bits bytes ++ bits_of n pending))) none ∙ bytes_of-whole bytes pending valid)
