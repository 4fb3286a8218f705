use Rattle.std.proofs.Common.{◌≡◌, ◌-◌}
use Rattle.rbc_model.specs.Lines.{has_section}
use Rattle.rbc_extent.specs.Walks.{legs_behind}
use Rattle.rbc_extent.proofs.walk.has_behind.Given as goal

abbrev pub invariant-loop-passed : goal.invariant-loop-passed
invariant-loop-passed l = has_section (legs_behind l.locks l.first (l.count - l._passed)) l.section ≡ has_section (legs_behind l.locks l.fn.leg l.count) l.section
