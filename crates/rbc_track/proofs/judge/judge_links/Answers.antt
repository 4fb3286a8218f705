use Rattle.std.proofs.Common.{[], ◌+◌, map, take, refl, sym, ◌∙◌}
use Rattle.std.proofs.lemmas.Result.{err_from_is_err_and}
use Rattle.rbc_model.specs.SoundTracks.{first_refusal, link_refusal}
use Rattle.rbc_model.specs.TrackParts.{link_of}
use Rattle.rbc_track.specs.Tables.{with_links}
use Rattle.rbc_track.proofs.JudgingLemmas.{joined_at, made_next, made_joined, told_next, passed_next}
use Rattle.rbc_track.proofs.WrittenLemmas.{link_judged, link_lies}
use Rattle.rbc_track.proofs.judge.judge_links.Goals as goal

pub returns-in_err-judge_link-clause-judged : goal.returns-in_err-judge_link-clause-judged
returns-in_err-judge_link-clause-judged c =
    let p = err_from_is_err_and c.from_residual.result c.from_residual.ensures.1 in
    let track = with_links c.args.sections.now [] in
    let links = c.args.links.now in
    let i = c.loop-earlier.earlier in
    let link = c.index-links-earlier.result in
    let made = link_of track.sections in
    let next = made_next made links i link (made link) c.loop-earlier-test.true c.index-links-earlier.is refl in
    let same = link_judged track.sections (take i links) link c.loop-earlier.invariant.lie in
    rw (p.1, p.2)
    (sym (told_next (link_refusal track) (first_refusal (link_refusal track) [] (map made links)) (map made (take i links)) _ _ (made link) next c.loop-earlier.invariant.so_far
    c.in_err-judge_link.field-0.0 (sym same ∙ sym c.in_err-judge_link.ensures)))

pub loop-earlier-preserved : goal.loop-earlier-preserved
loop-earlier-preserved c =
    let track = with_links c.args.sections.now [] in
    let links = c.args.links.now in
    let i = c.loop-earlier.earlier in
    let link = c.index-links-earlier.result in
    let made = link_of track.sections in
    let next = made_next made links i link (made link) c.loop-earlier-test.true c.index-links-earlier.is refl in
    let same = link_judged track.sections (take i links) link c.loop-earlier.invariant.lie in
    record {
      so_far =
          passed_next (link_refusal track) (first_refusal (link_refusal track) [] (map made links)) (map made (take i links)) _ _ (made link) next c.loop-earlier.invariant.so_far
          (map made (take (i + 1) links)) (made_joined made links i link c.loop-earlier-test.true c.index-links-earlier.is) (sym same ∙ sym c.in_ok-judge_link.ensures);
      lie =
          link_lies track.sections (take i links) (take (i + 1) links) link c.loop-earlier.invariant.lie (sym c.in_ok-judge_link.ensures)
          (joined_at links i link c.loop-earlier-test.true c.index-links-earlier.is);
    }
