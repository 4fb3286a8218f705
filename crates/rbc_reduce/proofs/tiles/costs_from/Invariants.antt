use Rattle.std.proofs.Common.{◌≡◌, ◌+◌, ◌≤◌, length}
use Rattle.std.specs.Vec.Iter.{into_iter_len}
use Rattle.rbc_model.specs.Scales.{unit_of}
use Rattle.rbc_table_laws.specs.Stretches.{cost_of_step}
use Rattle.rbc_reduce.specs.Tiles.{AreCostsFrom}
use Rattle.rbc_reduce.proofs.tiles.costs_from.Given as goal

abbrev pub invariant-loop-room : goal.invariant-loop-room
invariant-loop-room g l =
    record {
      some : 1 ≤ length l.columns.items;
      count : length l.columns.items + into_iter_len l.room-iterator ≡ length l.fn.rooms.items + 1;
      costs : AreCostsFrom g.N.Total.number (cost_of_step g.V.Level.levels (unit_of l.track.end) l.track) (length l.fn.before.items) l.columns.items;
    }
