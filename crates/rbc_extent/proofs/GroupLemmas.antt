-- The group of a report: it stands on one of the track's sections.
use Rattle.std.proofs.Common.{◌≡◌, ◌<◌, Bool, true, false, length, Option, Some, None, IfSome, refl, sym, subst, nat_lt, nat_le}
use Rattle.rbc_model.specs.declared.tracks.BaliseGroup.{BaliseGroup}
use Rattle.rbc_model.specs.GroupNames.{GroupName}
use Rattle.std.proofs.lemmas.Bool.{ltb-true}
use Rattle.rbc_model.specs.Reports.{Report}
use Rattle.rbc_model.specs.Tracks.{Track, group_named, group_name_eq, metres_of}
use Rattle.rbc_model.specs.Placing.{running_leg, leg_told}
use Rattle.rbc_model.specs.SoundTracks.{IsSound, is_good_group}
use Rattle.rbc_scene_laws.proofs.BasicLemmas.{and_left}
use Rattle.rbc_scene_laws.proofs.TrainListLemmas.{find-holds}
use Rattle.rbc_model.proofs.BasicLemmas.{each_of}

pub group_named-good : (track : Track) (name : GroupName) (group : BaliseGroup) → IsSound track → group_named track name ≡ Some group → is_good_group track group ≡ true
group_named-good track name group sound h =
    find-holds (λ (g : BaliseGroup). is_good_group track g ≡ true) (λ (g : BaliseGroup). group_name_eq g.name name) track.groups group h (each_of (is_good_group track) track.groups sound.groups)

pub found_group-good : (track : Track) (name : GroupName) (o : Option BaliseGroup) → IsSound track → o ≡ group_named track name → IfSome o (λ group. is_good_group track group ≡ true)
found_group-good track name None sound h = tt
found_group-good track name (Some group) sound h = group_named-good track name group sound (sym h)

section_by : (group : BaliseGroup) (nominal : Bool) → (running_leg group nominal).section ≡ group.section
section_by group true = refl
section_by group false = refl

-- the leg told is of the track
pub leg_told-below : (track : Track) (group : BaliseGroup) (report : Report) → is_good_group track group ≡ true → (leg_told group report).section < length track.sections
leg_told-below track group report good =
    subst (λ s. s < length track.sections) (sym (section_by group report.nominal))
    (ltb-true group.section (length track.sections) (and_left (nat_lt group.section (length track.sections)) (nat_le group.offset (metres_of track group.section)) good))
