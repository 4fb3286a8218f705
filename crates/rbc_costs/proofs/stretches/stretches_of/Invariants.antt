use Rattle.std.proofs.Common.{◌≡◌, ℕ, ◌+◌, ◌-◌, Some, None, length}
use Rattle.std.specs.List.{slice_get}
use Rattle.std.specs.Option.{option_map_or}
use Rattle.rbc_table_laws.specs.Breaks.{IsLowest}
use Rattle.rbc_table_laws.specs.Stretches.{breaks_for}
use Rattle.rbc_stretches.specs.OnTracks.{IsStretch}
use Rattle.rbc_stretches.specs.declared.stretch.Stretch.{Stretch}
use Rattle.rbc_costs.proofs.stretches.stretches_of.Given as goal

abbrev pub invariant-loop-next : goal.invariant-loop-next
invariant-loop-next g l = record {
  stand : (i : ℕ) (stretch : Stretch × g.row.V.Denot) → slice_get l.stretches.items i ≡ Some stretch → IsStretch l.unit l.track i stretch.0;
  least : (i : ℕ) (stretch : Stretch × g.row.V.Denot) → slice_get l.stretches.items i ≡ Some stretch → IsLowest g.V.Level.levels l.track stretch.0.from stretch.0.to stretch.1;
  on : (s : Stretch) → l.next ≡ Some s → IsStretch l.unit l.track (length l.stretches.items) s;
  ended : l.next ≡ None → length l.stretches.items + 1 ≡ length (breaks_for l.unit l.track);
}

abbrev pub decreases-loop-next : goal.decreases-loop-next
decreases-loop-next g l = option_map_or (λ (s : Stretch). l.track.end - s.from) l.next 0
