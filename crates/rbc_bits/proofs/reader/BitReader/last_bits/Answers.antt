use Rattle.std.proofs.Common.{◌≡◌, ◌≤◌, length, arith, ap, ◌∙◌}
use Rattle.rbc_model.specs.Bits.{byte_bits}
use Rattle.rbc_model.proofs.MessageSizeLemmas.{length-byte_bits}
use Rattle.rbc_bits.proofs.TakingLemmas.{last_number, few_left, many_left, length_left}
use Rattle.rbc_bits.proofs.reader.BitReader.last_bits.Goals as goal

pub returns-then-is_empty : goal.returns-then-is_empty
returns-then-is_empty c =
    let r = c.self.inside in
    let none : length r.bytes.now ≡ 0 = grind (arith, c.is_empty.ensures, c.if-is_empty.true) in
    few_left r.filled r.pending r.bytes.now (omega arith) c.self.invariant.1 none ∙ ap last_number c.self.view_is

pub returns-else-is_empty : goal.returns-else-is_empty
returns-else-is_empty c =
    let r = c.self.inside in
    let some : 1 ≤ length r.bytes.now = grind (arith, c.is_empty.ensures, c.if-is_empty.false) in
    many_left c.args.self.now (omega (arith, length_left r.filled r.pending (byte_bits r.bytes.now) c.args.self.now c.self.view_is, length-byte_bits r.bytes.now))

pub returns-then-self-ge8 : goal.returns-then-self-ge8
returns-then-self-ge8 c =
    let r = c.self.inside in
    many_left c.args.self.now (omega (arith, length_left r.filled r.pending (byte_bits r.bytes.now) c.args.self.now c.self.view_is))
