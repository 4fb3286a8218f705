use Rattle.std.proofs.Common.{◌+◌, ◌≡◌, [], length, arith, map, Result, ap, sym, subst, ◌∙◌}
use Rattle.std.proofs.lemmas.Result.{err_from_is_err_and}
use Rattle.rbc_model.specs.Answers.{RefusesOrMemory}
use Rattle.rbc_model.specs.declared.tracks.TrackRefusal.{TrackRefusal}
use Rattle.rbc_model.specs.declared.tracks.TrackRefusal.TheVariants.{TwiceNamed, BadGroup}
use Rattle.rbc_model.specs.declared.tracks.Table.TheVariants.{Groups}
use Rattle.rbc_model.specs.SoundTracks.{group_refusal, is_good_group}
use Rattle.rbc_model.specs.declared.tracks.BaliseGroup.{BaliseGroup}
use Rattle.rbc_model.specs.Tracks.{group_name_eq}
use Rattle.rbc_model.specs.TrackParts.{group_of}
use Rattle.rbc_track.specs.Making.{sound_groups}
use Rattle.rbc_track.specs.Tables.{with_links}
use Rattle.rbc_track.proofs.JudgingLemmas.{judged_from, made_next, named_next, refused, passed, judged_by_names}
use Rattle.rbc_track.proofs.group_table.Groups.new.Goals as goal

pub loop-part-init : goal.loop-part-init
unfolding sound_groups
loop-part-init c =
    let track = with_links c.args.sections.now [] in
    record {
      so_far = ap (λ groups. judged_from (group_refusal track) groups (map (group_of track.sections) c.args.parts.now)) c.new-groups.ensures.items;
      named = c.new-names.ensures ∙ ap (map (λ (x : BaliseGroup). x.name)) (sym c.new-groups.ensures.items);
    }

pub returns-in_err-note : goal.returns-in_err-note
returns-in_err-note c =
    let p = err_from_is_err_and c.from_residual.result c.from_residual.ensures.1 in
    let track = with_links c.args.sections.now [] in
    let l = c.loop-part in
    let done = l.groups.items in
    let entry = c.group_of-group.result in
    let next = made_next (group_of track.sections) c.args.parts.now l.part-index c.part-item.result entry c.loop-part-test.true c.part-item.is c.group_of-group.ensures in
    let counted : c.len.result + 1 ≡ length done + 1 = omega (arith, c.len.ensures, l.groups.ok) in
    let same = judged_by_names group_name_eq (λ x. x.name) (is_good_group track) (TwiceNamed Groups) BadGroup done l.names entry (c.len.result + 1) l.invariant.named counted in
    rw (p.1, p.2)
    (refused (group_refusal track) (sound_groups track.sections c.args.parts.now) done c.in_err-note.field-0.0 _ _ entry next l.invariant.so_far (subst (λ (answer : Result (Unit {0}) TrackRefusal). RefusesOrMemory c.in_err-note.field-0.0 answer) same c.in_err-note.ensures.judged))

pub loop-part-preserved : goal.loop-part-preserved
loop-part-preserved c =
    let track = with_links c.args.sections.now [] in
    let l = c.loop-part in
    let done = l.groups.items in
    let entry = c.group_of-group.result in
    let next = made_next (group_of track.sections) c.args.parts.now l.part-index c.part-item.result entry c.loop-part-test.true c.part-item.is c.group_of-group.ensures in
    let counted : c.len.result + 1 ≡ length done + 1 = omega (arith, c.len.ensures, l.groups.ok) in
    let same = judged_by_names group_name_eq (λ x. x.name) (is_good_group track) (TwiceNamed Groups) BadGroup done l.names entry (c.len.result + 1) l.invariant.named counted in
    record {
      so_far = passed (group_refusal track) (sound_groups track.sections c.args.parts.now) done _ _ c.push.new.self.items entry next l.invariant.so_far c.in_ok-push.ensures.items (sym same ∙ c.in_ok-note.ensures.judged);
      named = c.in_ok-note.ensures.named ∙ named_next (λ (x : BaliseGroup). x.name) done c.push.new.self.items l.names entry l.invariant.named c.in_ok-push.ensures.items;
    }
