use Rattle.std.proofs.Common.{◌≡◌, ◌*◌, ◌%◌, ◌^◌, ◌≤◌, ◌∙◌, ap, sym, arith}
use Rattle.rbc_test_levels.specs.PowerLevels.{powers, greatest_within}
use Rattle.rbc_test_levels.specs.PowerLaws.{range_of}
use Rattle.rbc_test_levels.proofs.PowerLemmas.{power_floor}
use Rattle.rbc_test_levels.proofs.power.PowerLevel.floor.Goals as goal

pub returns : goal.returns
returns c =
    let k = c.ilog2.result in
    let inside = c.self.inside.number in
    let small = (range_of inside c.self.invariant).1 in
    let within : 2 ^ k ≤ inside = c.ilog2.ensures.power_le in
    let shifted : 1 * 2 ^ k % 65536 ≡ 2 ^ k = omega arith in
    shifted ∙ sym (power_floor inside k small c.ilog2.ensures.bound within c.ilog2.ensures.next_power_gt) ∙ ap (λ n. greatest_within n powers) c.self.view_is
