use Rattle.std.proofs.Common.{◌≡◌, true, [], map, take, drop}
use Rattle.std.specs.List.{list_all}
use Rattle.rbc_model.specs.SoundTracks.{first_refusal, link_refusal}
use Rattle.rbc_model.specs.TrackParts.{link_of}
use Rattle.rbc_track.specs.Tables.{with_links}
use Rattle.rbc_track.specs.Written.{lies_on}
use Rattle.rbc_track.proofs.judge.judge_links.Given as goal

abbrev pub invariant-loop-earlier : goal.invariant-loop-earlier
invariant-loop-earlier l = record {
  so_far :
      first_refusal (link_refusal (with_links l.sections [])) (map (link_of l.sections) (take l.earlier l.links)) (map (link_of l.sections) (drop l.earlier l.links))
      ≡ first_refusal (link_refusal (with_links l.sections [])) [] (map (link_of l.sections) l.links);
  lie : list_all (lies_on l.sections) (take l.earlier l.links) ≡ true;
}
