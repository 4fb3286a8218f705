use Rattle.std.proofs.Common.{◌≡◌, [], map, drop}
use Rattle.rbc_model.specs.SoundTracks.{link_refusal}
use Rattle.rbc_model.specs.TrackParts.{link_of}
use Rattle.rbc_track.specs.Making.{sound_links}
use Rattle.rbc_track.specs.Tables.{with_links}
use Rattle.rbc_track.proofs.JudgingLemmas.{judged_from}
use Rattle.rbc_track.proofs.link_table.links_of.Given as goal

abbrev pub invariant-loop-part : goal.invariant-loop-part
invariant-loop-part l =
    judged_from (link_refusal (with_links l.sections [])) l.links (map (link_of l.sections) (drop l.part-index l.parts))
    ≡ sound_links l.sections l.parts
