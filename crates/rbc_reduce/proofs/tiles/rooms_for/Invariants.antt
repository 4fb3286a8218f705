use Rattle.std.proofs.Common.{◌≡◌, ◌≤◌, length}
use Rattle.rbc_reduce.proofs.tiles.rooms_for.Given as goal

abbrev pub invariant-loop-room : goal.invariant-loop-room
invariant-loop-room g l = (length l.rooms.items ≡ l._room) × (l._room ≤ l.count)
