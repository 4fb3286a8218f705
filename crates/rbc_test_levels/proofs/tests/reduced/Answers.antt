use Rattle.std.proofs.Common.{arith, sym, ◌∙◌, eqb-true}
use denote.Memory.{lone}
use Rattle.rbc_test_levels.proofs.LayoutLemmas.{align_few}
use Rattle.rbc_test_levels.proofs.tests.reduced.Goals as goal

pub reduce-requires-send-V : goal.reduce-requires-send-V
reduce-requires-send-V g c κs within = c.type_bounds.send-V

pub reduce-requires-sync-V : goal.reduce-requires-sync-V
reduce-requires-sync-V g c κs within = c.type_bounds.sync-V

pub reduce-requires-sync-typeof-rt : goal.reduce-requires-sync-typeof-rt
reduce-requires-sync-typeof-rt g c κs within = c.type_bounds.sync-typeof-rt

pub reduce-requires-after_bounds : goal.reduce-requires-after_bounds
reduce-requires-after_bounds g c κs within = (omega (arith, align_few (lone g.row.V.mir)), (omega arith, (omega arith, eqb-true _ _ (sym c.is_whole.ensures ∙ c.if-assert-2.false))))

pub check-requires-send-V : goal.check-requires-send-V
check-requires-send-V g c κs within = c.type_bounds.send-V

pub check-requires-sync-V : goal.check-requires-sync-V
check-requires-sync-V g c κs within = c.type_bounds.sync-V
