use Rattle.std.proofs.Common.{bytes_eq, [], ◌+◌, map, take, refl, sym, ◌∙◌}
use Rattle.std.proofs.lemmas.Result.{err_from_is_err_and}
use Rattle.rbc_model.specs.declared.tracks.Table.TheVariants.{Routes}
use Rattle.rbc_model.specs.declared.tracks.TrackRefusal.TheVariants.{TwiceNamed, BadRoute}
use Rattle.rbc_model.specs.SoundTracks.{first_refusal, route_refusal, is_good_route}
use Rattle.rbc_model.specs.TrackParts.{link_of, route_of}
use Rattle.rbc_track.specs.Tables.{with_links}
use Rattle.rbc_track.specs.Written.{is_good_written_route}
use Rattle.rbc_track.proofs.JudgingLemmas.{made_next, made_joined, told_next, passed_next, judged_as_written}
use Rattle.rbc_track.proofs.WrittenLemmas.{good_route}
use Rattle.rbc_track.proofs.judge.judge_routes.Goals as goal

pub returns-in_err-judge_route : goal.returns-in_err-judge_route
returns-in_err-judge_route c on =
    let p = err_from_is_err_and c.from_residual.result c.from_residual.ensures.1 in
    let sections = c.args.sections.now in
    let links = c.args.links.now in
    let track = with_links sections (map (link_of sections) links) in
    let routes = c.args.routes.now in
    let i = c.loop-earlier.earlier in
    let route = c.index-routes-earlier.result in
    let made = route_of sections in
    let next = made_next made routes i route (made route) c.loop-earlier-test.true c.index-routes-earlier.is refl in
    let same = judged_as_written bytes_eq (λ r. r.name) made (is_good_route track) (TwiceNamed Routes) BadRoute (take i routes) route (is_good_written_route sections links route) (good_route sections links on route) in
    rw (p.1, p.2)
    (sym (told_next (route_refusal track) (first_refusal (route_refusal track) [] (map made routes)) (map made (take i routes)) _ _ (made route) next (c.loop-earlier.invariant on)
    c.in_err-judge_route.field-0.0 (sym same ∙ sym c.in_err-judge_route.ensures)))

pub loop-earlier-preserved : goal.loop-earlier-preserved
loop-earlier-preserved c on =
    let sections = c.args.sections.now in
    let links = c.args.links.now in
    let track = with_links sections (map (link_of sections) links) in
    let routes = c.args.routes.now in
    let i = c.loop-earlier.earlier in
    let route = c.index-routes-earlier.result in
    let made = route_of sections in
    let next = made_next made routes i route (made route) c.loop-earlier-test.true c.index-routes-earlier.is refl in
    let same = judged_as_written bytes_eq (λ r. r.name) made (is_good_route track) (TwiceNamed Routes) BadRoute (take i routes) route (is_good_written_route sections links route) (good_route sections links on route) in
    passed_next (route_refusal track) (first_refusal (route_refusal track) [] (map made routes)) (map made (take i routes)) _ _ (made route) next (c.loop-earlier.invariant on)
    (map made (take (i + 1) routes)) (made_joined made routes i route c.loop-earlier-test.true c.index-routes-earlier.is) (sym same ∙ sym c.in_ok-judge_route.ensures)
