use Rattle.std.proofs.Common.{◌≡◌, ◌^◌, ◌<◌, ◌++◌, length, arith, ap, sym, ◌∙◌}
use Rattle.rbc_model.specs.Bits.{bits_of, byte_bits}
use Rattle.rbc_bits.proofs.CutLemmas.{joined_number, joined_number-below}
use Rattle.rbc_bits.proofs.TakingLemmas.{begun_byte}
use Rattle.rbc_bits.proofs.reader.begun.Goals as goal

pub loop-count-preserved : goal.loop-count-preserved
loop-count-preserved c =
    let l = c.loop-count in
    let byte = c.in-Some.byte.now in
    let first = rw c.in-Some.is at c.split_first.ensures.cases in
    let fits : byte < 2 ^ 8 = omega arith in
    rw (c.from.ensures, joined_number l.count 8 l.number byte l.invariant.number fits (omega arith)) record {
      bits =
          begun_byte l.count l.number byte c.in-Some.later.now fits
          ∙ ap (λ bytes. bits_of l.count l.number ++ byte_bits bytes) (sym first.0)
          ∙ l.invariant.bits;
      number = joined_number-below l.count 8 l.number byte l.invariant.number fits;
      count = omega arith;
    }

pub returns-in_default-clause-all : goal.returns-in_default-clause-all
returns-in_default-clause-all c =
    let none : length c.loop-count.rest.now ≡ 0 = rw c.in_default.is at c.split_first.ensures.cases in
    λ few. none
