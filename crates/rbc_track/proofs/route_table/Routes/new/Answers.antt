use Rattle.std.proofs.Common.{bytes_eq, ◌+◌, ◌≡◌, length, arith, map, Result, ap, sym, subst, ◌∙◌}
use Rattle.std.proofs.lemmas.Result.{err_from_is_err_and}
use Rattle.rbc_model.specs.Answers.{RefusesOrMemory}
use Rattle.rbc_model.specs.declared.tracks.TrackRefusal.{TrackRefusal}
use Rattle.rbc_model.specs.declared.tracks.TrackRefusal.TheVariants.{TwiceNamed, BadRoute}
use Rattle.rbc_model.specs.declared.tracks.Table.TheVariants.{Routes}
use Rattle.rbc_model.specs.SoundTracks.{route_refusal, is_good_route}
use Rattle.rbc_model.specs.Tracks.{Route}
use Rattle.rbc_model.specs.TrackParts.{route_of}
use Rattle.rbc_track.specs.Making.{sound_routes}
use Rattle.rbc_track.specs.Tables.{with_links}
use Rattle.rbc_track.proofs.JudgingLemmas.{judged_from, made_next, named_next, refused, passed, judged_by_names}
use Rattle.rbc_track.proofs.route_table.Routes.new.Goals as goal

pub loop-part-init : goal.loop-part-init
unfolding sound_routes
loop-part-init c =
    let track = with_links c.args.sections.now c.args.links.now in
    record {
      so_far = ap (λ routes. judged_from (route_refusal track) routes (map (route_of track.sections) c.args.parts.now)) c.new-routes.ensures.items;
      named = c.new-names.ensures ∙ ap (map (λ (x : Route). x.name)) (sym c.new-routes.ensures.items);
    }

pub returns-in_err-note : goal.returns-in_err-note
returns-in_err-note c =
    let p = err_from_is_err_and c.from_residual-in_err-note.result c.from_residual-in_err-note.ensures.1 in
    let track = with_links c.args.sections.now c.args.links.now in
    let l = c.loop-part in
    let done = l.routes.items in
    let entry = c.in_ok-route.route in
    let next = made_next (route_of track.sections) c.args.parts.now l.part-index c.part-item.result entry c.loop-part-test.true c.part-item.is c.in_ok-route.ensures in
    let counted : c.len.result + 1 ≡ length done + 1 = omega (arith, c.len.ensures, l.routes.ok) in
    let same = judged_by_names bytes_eq (λ x. x.name) (is_good_route track) (TwiceNamed Routes) BadRoute done l.names entry (c.len.result + 1) l.invariant.named counted in
    rw (p.1, p.2)
    (refused (route_refusal track) (sound_routes track.sections track.links c.args.parts.now) done c.in_err-note.field-0.0 _ _ entry next l.invariant.so_far (subst (λ (answer : Result (Unit {0}) TrackRefusal). RefusesOrMemory c.in_err-note.field-0.0 answer) same c.in_err-note.ensures.judged))

pub loop-part-preserved : goal.loop-part-preserved
loop-part-preserved c =
    let track = with_links c.args.sections.now c.args.links.now in
    let l = c.loop-part in
    let done = l.routes.items in
    let entry = c.in_ok-route.route in
    let next = made_next (route_of track.sections) c.args.parts.now l.part-index c.part-item.result entry c.loop-part-test.true c.part-item.is c.in_ok-route.ensures in
    let counted : c.len.result + 1 ≡ length done + 1 = omega (arith, c.len.ensures, l.routes.ok) in
    let same = judged_by_names bytes_eq (λ x. x.name) (is_good_route track) (TwiceNamed Routes) BadRoute done l.names entry (c.len.result + 1) l.invariant.named counted in
    record {
      so_far = passed (route_refusal track) (sound_routes track.sections track.links c.args.parts.now) done _ _ c.push.new.self.items entry next l.invariant.so_far c.in_ok-push.ensures.items (sym same ∙ c.in_ok-note.ensures.judged);
      named = c.in_ok-note.ensures.named ∙ named_next (λ (x : Route). x.name) done c.push.new.self.items l.names entry l.invariant.named c.in_ok-push.ensures.items;
    }
