use Rattle.std.proofs.Common.{[], map, ap, sym}
use Rattle.std.proofs.lemmas.Result.{err_from_is_err_and}
use Rattle.rbc_model.specs.SoundTracks.{link_refusal}
use Rattle.rbc_model.specs.TrackParts.{link_of}
use Rattle.rbc_track.specs.Making.{sound_links}
use Rattle.rbc_track.specs.Tables.{with_links}
use Rattle.rbc_track.proofs.JudgingLemmas.{judged_from, made_next, refused, passed}
use Rattle.rbc_track.proofs.link_table.links_of.Goals as goal

pub loop-part-init : goal.loop-part-init
unfolding sound_links
loop-part-init c =
    let sections = c.args.sections.now in
    ap (λ links. judged_from (link_refusal (with_links sections [])) links (map (link_of sections) c.args.parts.now)) c.new-links.ensures

pub returns-in_err-add : goal.returns-in_err-add
returns-in_err-add c =
    let p = err_from_is_err_and c.from_residual.result c.from_residual.ensures.1 in
    let track = with_links c.args.sections.now [] in
    let parts = c.args.parts.now in
    let i = c.loop-part.part-index in
    let next = made_next (link_of track.sections) parts i c.part-item.result c.link_of.result c.loop-part-test.true c.part-item.is c.link_of.ensures in
    rw (p.1, p.2)
    (refused (link_refusal track) (sound_links track.sections parts) c.loop-part.links c.in_err-add.field-0.0 _ _ c.link_of.result next c.loop-part.invariant
    (c.in_err-add.ensures.judged track (sym c.len.ensures)))

pub loop-part-preserved : goal.loop-part-preserved
loop-part-preserved c =
    let track = with_links c.args.sections.now [] in
    let parts = c.args.parts.now in
    let i = c.loop-part.part-index in
    let next = made_next (link_of track.sections) parts i c.part-item.result c.link_of.result c.loop-part-test.true c.part-item.is c.link_of.ensures in
    passed (link_refusal track) (sound_links track.sections parts) c.loop-part.links _ _ c.add.new.links c.link_of.result next c.loop-part.invariant
    c.in_ok-add.ensures.added (c.in_ok-add.ensures.judged track (sym c.len.ensures))
