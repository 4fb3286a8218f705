use Rattle.std.proofs.Common.{◌∙◌, ap}
use Rattle.rbc_test_levels.specs.PowerLevels.{is_power}
use Rattle.rbc_test_levels.specs.PowerLaws.{range_of}
use Rattle.rbc_test_levels.proofs.PowerLemmas.{power_test}
use Rattle.rbc_test_levels.proofs.power.PowerLevel.expressible.Goals as goal

pub returns : goal.returns
returns c =
    let inside = c.self.inside.number in
    c.is_power_of_two.ensures ∙ power_test inside (range_of inside c.self.invariant).1 ∙ ap is_power c.self.view_is
