use Rattle.std.proofs.Common.{drop}
use Rattle.std.specs.List.{AllByRecursion}
use Rattle.rbc_model.specs.declared.tracks.BaliseGroup.{BaliseGroup}
use Rattle.rbc_model.specs.GroupNames.{IsGroupName}
use Rattle.rbc_lines.proofs.track.groups_known.Given as goal

-- if it holds of those that are left it holds of all
abbrev pub invariant-loop-group : goal.invariant-loop-group
invariant-loop-group l = record {
  whole : AllByRecursion (λ (group : BaliseGroup). IsGroupName group.name) (drop l.group-index l.groups) → AllByRecursion (λ (group : BaliseGroup). IsGroupName group.name) l.groups;
}
