use Rattle.std.proofs.Common.{◌≡◌, [], map, take, drop}
use Rattle.rbc_model.specs.SoundTracks.{first_refusal, group_refusal}
use Rattle.rbc_model.specs.TrackParts.{group_of}
use Rattle.rbc_track.specs.Tables.{with_links}
use Rattle.rbc_track.proofs.judge.judge_groups.Given as goal

abbrev pub invariant-loop-earlier : goal.invariant-loop-earlier
invariant-loop-earlier l =
    first_refusal (group_refusal (with_links l.sections [])) (map (group_of l.sections) (take l.earlier l.groups)) (map (group_of l.sections) (drop l.earlier l.groups))
    ≡ first_refusal (group_refusal (with_links l.sections [])) [] (map (group_of l.sections) l.groups)
