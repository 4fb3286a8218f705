use Rattle.std.proofs.Common.{rules, arith, ap, drop, decimal, length, length-append}
use Rattle.std.proofs.lemmas.Fmt.{length-decimal-le}
use Rattle.std.proofs.lemmas.List.{length-drop}
use Rattle.rbc_words.proofs.tail_buffer.TailBuffer.small.Goals as goal

pub write_digits-self-inside-requires : goal.write_digits-self-inside-requires
write_digits-self-inside-requires c =
    let digits = length-decimal-le 10 c.from.result (omega arith) (omega (arith, c.ranges.number.fits, c.from.ensures)) (omega (arith, c.ranges.number.fits, c.from.ensures)) in
    let before = ap length c.self.view_is in
    (omega (arith, length-drop c.self.inside.start c.self.inside.bytes), search rules)

pub returns-clause-length : goal.returns-clause-length
returns-clause-length c =
    let digits = length-decimal-le 10 c.from.result (omega arith) (omega (arith, c.ranges.number.fits, c.from.ensures)) (omega (arith, c.ranges.number.fits, c.from.ensures)) in
    let before = ap length c.self.view_is in
    let written = ap length c.write_digits-self-inside.ensures.written in
    omega (arith, length-append (decimal c.from.result) (drop c.self.inside.start c.self.inside.bytes))
