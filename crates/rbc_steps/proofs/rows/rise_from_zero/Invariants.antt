use Rattle.std.proofs.Common.{◌≡◌, true, drop, take}
use Rattle.std.specs.List.{list_all}
use Rattle.rbc_model.specs.Profiles.{starts_of, rises_above}
use Rattle.rbc_steps.proofs.rows.rise_from_zero.Given as goal

abbrev pub invariant-loop-row : goal.invariant-loop-row
invariant-loop-row g l = record {
  rises : rises_above l.before (starts_of (drop l.row-index l.later)) ≡ rises_above 0 (starts_of l.later);
  in_range : list_all (λ row. g.V.Level.levels.in_range row.1) (take l.row-index l.later) ≡ true;
}
