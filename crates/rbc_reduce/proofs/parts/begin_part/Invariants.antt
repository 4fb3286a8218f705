use Rattle.std.proofs.Common.{◌≡◌, ℕ, ◌+◌, ◌-◌, ◌*◌, ◌<◌, ◌≤◌, Some, length, map, min}
use Rattle.std.specs.List.{slice_get}
use Rattle.rbc_model.specs.Scales.{unit_of}
use Rattle.rbc_table_laws.specs.Stretches.{cost_of_step}
use Rattle.rbc_costs.specs.Stretches.{AreCosts}
use Rattle.rbc_reduce.specs.Tiles.{IsBegun}
use Rattle.rbc_reduce.specs.declared.parts.Group.{Group}
use Rattle.rbc_reduce.proofs.parts.begin_part.Given as goal

abbrev pub invariant-loop-alloc : goal.invariant-loop-alloc
invariant-loop-alloc g l =
    let number = g.N.Total.number in
    let cost = cost_of_step g.V.Level.levels (unit_of l.track.end) l.track in
    record {
      low : l.span.from ≤ length l.before.items;
      place : length l.before.items ≡ min l.span.end (l.span.from + 4 * length l.groups.items);
      few : 4 * length l.groups.items < l.span.end - l.span.from + 4;
      costs : AreCosts cost (map number l.before.items);
      each : (k : ℕ) (group : Group g.row.N.Denot) → slice_get l.groups.items k ≡ Some group → IsBegun number l.rows cost l.span.known (l.span.from + 4 * k) l.span.end group;
    }

abbrev pub decreases-loop-alloc : goal.decreases-loop-alloc
decreases-loop-alloc g l = l.span.end - length l.before.items
