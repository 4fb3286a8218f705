use Rattle.std.proofs.Common.{◌≡◌, [], map, drop}
use Rattle.rbc_model.specs.SoundTracks.{group_refusal}
use Rattle.rbc_model.specs.TrackParts.{group_of}
use Rattle.rbc_track.specs.Making.{sound_groups}
use Rattle.rbc_track.specs.Tables.{with_links}
use Rattle.rbc_track.proofs.JudgingLemmas.{judged_from}
use Rattle.rbc_track.proofs.group_table.Groups.new.Given as goal

abbrev pub invariant-loop-part : goal.invariant-loop-part
invariant-loop-part l = record {
  so_far : judged_from (group_refusal (with_links l.sections [])) l.groups.items (map (group_of l.sections) (drop l.part-index l.parts)) ≡ sound_groups l.sections l.parts;
  named : l.names ≡ map (λ group. group.name) l.groups.items;
}
