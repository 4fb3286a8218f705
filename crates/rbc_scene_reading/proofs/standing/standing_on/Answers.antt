use Rattle.std.proofs.Common.{◌≡◌, ◌<◌, ◌≤◌, Some, ◌∙◌, ap, sym, subst, arith, rules, SFits, w64}
use Rattle.std.proofs.lemmas.Int.{to_z-of_z}
use Rattle.std.specs.Prelude.{option_map}
use Rattle.rbc_model.specs.Lines.{IsLine, line_length}
use Rattle.rbc_scene.specs.TrainsOnTracks.{TrainOnTrack}
use Rattle.rbc_scene_reading.specs.Running.{Running}
use Rattle.rbc_scene_reading.specs.Reading.{place_at}
use Rattle.rbc_scene_reading.proofs.StandingLemmas.{extent_at, is_there, no_origin, no_rear, origin_at, other_extent, other_origin, train_at_places}
use Rattle.rbc_scene_reading.proofs.standing.standing_on.Goals as goal

pub returns-in_err-origin-clause-train : goal.returns-in_err-origin-clause-train
returns-in_err-origin-clause-train c =
    ap (option_map (λ (s : TrainOnTrack). s.train)) c.from_residual.ensures
    ∙ sym
    (no_origin c.args.line.track c.args.running.now c.args.rear c.args.front
    (origin_at c.args.line.track c.args.line.legs c.args.running.now.legs c.running.inside.report c.args.running.now.report c.origin_told.result _ c.requires (ap (λ (r : Running). r.report) c.running.view_is) c.origin_told.ensures c.in_err-origin.was))

pub returns-in_err-rear-clause-train : goal.returns-in_err-rear-clause-train
returns-in_err-rear-clause-train c =
    ap (option_map (λ (s : TrainOnTrack). s.train)) c.from_residual-in_err-rear.ensures
    ∙ sym
    (no_rear c.args.line.track c.args.running.now c.args.rear c.args.front
    (λ place e. subst (λ n. n < place) (c.length-length.ensures.length ∙ ap (line_length c.args.line.track) c.requires) (c.in_err-rear.ensures.none place (ap (place_at c.running.inside.origin) (to_z-of_z w64 c.args.rear (let fits : SFits w64 c.args.rear = search rules in fits)) ∙ ap (λ n. place_at n c.args.rear) (ap (λ (r : Running). r.origin) c.running.view_is) ∙ e))))

pub returns-then-from-running-clause-train : goal.returns-then-from-running-clause-train
returns-then-from-running-clause-train c =
    sym
    (other_origin c.args.line.track c.args.running.now c.args.rear c.args.front c.in_ok-origin.origin
    (origin_at c.args.line.track c.args.line.legs c.args.running.now.legs c.running.inside.report c.args.running.now.report c.origin_told.result _ c.requires (ap (λ (r : Running). r.report) c.running.view_is) c.origin_told.ensures c.in_ok-origin.was)
    (λ e. let other = c.if-from-running.true in let from = c.from.ensures in let same = ap (λ (r : Running). r.origin) c.running.view_is in omega (arith, other, from, same, e)))

pub returns-then-not-is_extent_told-clause-train : goal.returns-then-not-is_extent_told-clause-train
returns-then-not-is_extent_told-clause-train c =
    sym
    (other_extent c.args.line.track c.args.running.now c.args.rear c.args.front c.in_ok-rear.rear c.in_ok-front.front
    (subst (λ n. place_at n c.args.rear ≡ Some c.in_ok-rear.rear) (ap (λ (r : Running). r.origin) c.running.view_is) (subst (λ z. place_at c.running.inside.origin z ≡ Some c.in_ok-rear.rear) (to_z-of_z w64 c.args.rear (let fits : SFits w64 c.args.rear = search rules in fits)) c.in_ok-rear.ensures.place.0))
    (subst (λ n. place_at n c.args.front ≡ Some c.in_ok-front.front) (ap (λ (r : Running). r.origin) c.running.view_is) (subst (λ z. place_at c.running.inside.origin z ≡ Some c.in_ok-front.front) (to_z-of_z w64 c.args.front (let fits : SFits w64 c.args.front = search rules in fits)) c.in_ok-front.ensures.place.0))
    (extent_at c.deref.result.now c.args.line.track c.running.inside.report c.args.running.now.report c.args.running.now.origin c.in_ok-origin.origin c.in_ok-rear.rear c.in_ok-front.front c.is_extent_told.result _
    (c.deref.ensures ∙ c.track.ensures.track) (ap (λ (r : Running). r.report) c.running.view_is) (let no_other = c.if-from-running.false in let from = c.from.ensures in let same = ap (λ (r : Running). r.origin) c.running.view_is in omega (arith, no_other, from, same)) c.is_extent_told.ensures c.if-not-is_extent_told.true))

pub returns-clause-train : goal.returns-clause-train
returns-clause-train c =
    let on_line : c.in_ok-front.front ≤ line_length c.args.line.track c.args.running.now.legs = let a = c.in_ok-front.ensures.place.1 in let b = c.length-length.ensures.length ∙ ap (line_length c.args.line.track) c.requires in omega (arith, a, b) in
    ap Some (train_at_places c.args.line c.running.inside.report c.args.running.now c.in_ok-origin.origin c.in_ok-rear.rear c.in_ok-front.front c.requires (ap (λ (r : Running). r.report) c.running.view_is) (let no_other = c.if-from-running.false in let from = c.from.ensures in let same = ap (λ (r : Running). r.origin) c.running.view_is in omega (arith, no_other, from, same)))
    ∙ sym
    (is_there c.args.line.track c.args.running.now c.args.rear c.args.front c.in_ok-rear.rear c.in_ok-front.front
    (subst (λ n. place_at n c.args.rear ≡ Some c.in_ok-rear.rear) (ap (λ (r : Running). r.origin) c.running.view_is) (subst (λ z. place_at c.running.inside.origin z ≡ Some c.in_ok-rear.rear) (to_z-of_z w64 c.args.rear (let fits : SFits w64 c.args.rear = search rules in fits)) c.in_ok-rear.ensures.place.0))
    (subst (λ n. place_at n c.args.front ≡ Some c.in_ok-front.front) (ap (λ (r : Running). r.origin) c.running.view_is) (subst (λ z. place_at c.running.inside.origin z ≡ Some c.in_ok-front.front) (to_z-of_z w64 c.args.front (let fits : SFits w64 c.args.front = search rules in fits)) c.in_ok-front.ensures.place.0))
    (subst (IsLine c.args.line.track) c.requires c.known.ensures.line)
    (origin_at c.args.line.track c.args.line.legs c.args.running.now.legs c.running.inside.report c.args.running.now.report c.origin_told.result _ c.requires (ap (λ (r : Running). r.report) c.running.view_is) c.origin_told.ensures
    (c.in_ok-origin.was ∙ ap Some (let no_other = c.if-from-running.false in let from = c.from.ensures in let same = ap (λ (r : Running). r.origin) c.running.view_is in omega (arith, no_other, from, same))))
    on_line
    (extent_at c.deref.result.now c.args.line.track c.running.inside.report c.args.running.now.report c.args.running.now.origin c.in_ok-origin.origin c.in_ok-rear.rear c.in_ok-front.front c.is_extent_told.result _
    (c.deref.ensures ∙ c.track.ensures.track) (ap (λ (r : Running). r.report) c.running.view_is) (let no_other = c.if-from-running.false in let from = c.from.ensures in let same = ap (λ (r : Running). r.origin) c.running.view_is in omega (arith, no_other, from, same)) c.is_extent_told.ensures c.if-not-is_extent_told.false))
