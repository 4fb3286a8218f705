use Rattle.std.proofs.Common.{◌≡◌, ◌≤◌, length, take, filter, is_some}
use Rattle.rbc_desk.proofs.state.locked_count.Given as goal

abbrev pub invariant-loop-index : goal.invariant-loop-index
invariant-loop-index l = (l.locked ≡ length (filter is_some (take l.index l.scene.scene.locks))) × (l.locked ≤ l.index)
