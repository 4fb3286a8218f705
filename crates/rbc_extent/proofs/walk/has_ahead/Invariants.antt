use Rattle.std.proofs.Common.{◌≡◌, ◌-◌}
use Rattle.rbc_model.specs.Lines.{has_section}
use Rattle.rbc_extent.specs.Walks.{legs_ahead}
use Rattle.rbc_extent.proofs.walk.has_ahead.Given as goal

abbrev pub invariant-loop-passed : goal.invariant-loop-passed
invariant-loop-passed l = has_section (legs_ahead l.locks l.last (l.count - l._passed)) l.section ≡ has_section (legs_ahead l.locks l.fn.leg l.count) l.section
