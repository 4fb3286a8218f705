use Rattle.std.proofs.Common.{[], ◌+◌, map, take, refl, sym, ◌∙◌}
use Rattle.std.proofs.lemmas.Result.{err_from_is_err_and}
use Rattle.rbc_model.specs.declared.tracks.Table.TheVariants.{Groups}
use Rattle.rbc_model.specs.declared.tracks.TrackRefusal.TheVariants.{TwiceNamed, BadGroup}
use Rattle.rbc_model.specs.SoundTracks.{first_refusal, group_refusal, is_good_group}
use Rattle.rbc_model.specs.TrackParts.{group_of}
use Rattle.rbc_model.specs.Tracks.{group_name_eq}
use Rattle.rbc_track.specs.Tables.{with_links}
use Rattle.rbc_track.proofs.JudgingLemmas.{made_next, made_joined, told_next, passed_next, judged_as_written}
use Rattle.rbc_track.proofs.judge.judge_groups.Goals as goal

pub returns-in_err-judge_group : goal.returns-in_err-judge_group
returns-in_err-judge_group c =
    let p = err_from_is_err_and c.from_residual.result c.from_residual.ensures.1 in
    let track = with_links c.args.sections.now [] in
    let groups = c.args.groups.now in
    let i = c.loop-earlier.earlier in
    let group = c.index-groups-earlier.result in
    let made = group_of track.sections in
    let next = made_next made groups i group (made group) c.loop-earlier-test.true c.index-groups-earlier.is refl in
    let same = judged_as_written group_name_eq (λ g. g.name) made (is_good_group track) (TwiceNamed Groups) BadGroup (take i groups) group _ refl in
    rw (p.1, p.2)
    (sym (told_next (group_refusal track) (first_refusal (group_refusal track) [] (map made groups)) (map made (take i groups)) _ _ (made group) next c.loop-earlier.invariant
    c.in_err-judge_group.field-0.0 (sym same ∙ sym c.in_err-judge_group.ensures)))

pub loop-earlier-preserved : goal.loop-earlier-preserved
loop-earlier-preserved c =
    let track = with_links c.args.sections.now [] in
    let groups = c.args.groups.now in
    let i = c.loop-earlier.earlier in
    let group = c.index-groups-earlier.result in
    let made = group_of track.sections in
    let next = made_next made groups i group (made group) c.loop-earlier-test.true c.index-groups-earlier.is refl in
    let same = judged_as_written group_name_eq (λ g. g.name) made (is_good_group track) (TwiceNamed Groups) BadGroup (take i groups) group _ refl in
    passed_next (group_refusal track) (first_refusal (group_refusal track) [] (map made groups)) (map made (take i groups)) _ _ (made group) next c.loop-earlier.invariant
    (map made (take (i + 1) groups)) (made_joined made groups i group c.loop-earlier-test.true c.index-groups-earlier.is) (sym same ∙ sym c.in_ok-judge_group.ensures)
