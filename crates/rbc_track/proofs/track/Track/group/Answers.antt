use Rattle.std.proofs.Common.{◌<◌, Option, Some, None, true, ◌≡◌, length, nat_lt, nat_le, IfSome, ltb-true, subst}
use Rattle.rbc_model.specs.declared.tracks.BaliseGroup.{BaliseGroup}
use Rattle.rbc_model.specs.SoundTracks.{is_good_group}
use Rattle.rbc_model.specs.Tracks.{Track, group_name_eq, metres_of}
use Rattle.rbc_model.proofs.CountingLemmas.{both_of}
use Rattle.rbc_track.specs.Tables.{track_with}
use Rattle.rbc_track.proofs.FindingLemmas.{find-passes}
use Rattle.rbc_track.proofs.track.Track.group.Goals as goal

within : (track : Track) (found : Option BaliseGroup) → IfSome found (λ group. is_good_group track group ≡ true) → IfSome found (λ group. group.section < length track.sections)
within track None h = tt
within track (Some group) h =
    ltb-true group.section (length track.sections)
    (both_of (nat_lt group.section (length track.sections)) (nat_le group.offset (metres_of track group.section)) h).0

pub returns-clause-within : goal.returns-clause-within
returns-clause-within c =
    let track = track_with c.self.inside.format c.self.inside.speed_steps c.self.inside.grade_steps c.self.inside.sections c.self.inside.links c.self.inside.groups c.self.inside.routes in
    subst (λ (track : Track). IfSome c.find.result (λ group. group.section < length track.sections)) c.self.view_is
    (within track c.find.result
    (find-passes (λ group. group_name_eq group.name c.args.name) (is_good_group track) track.groups c.find.result c.self.invariant.sound.groups c.find.ensures))
