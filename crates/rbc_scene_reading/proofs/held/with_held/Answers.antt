use Rattle.std.proofs.Common.{◌≡◌, ◌≤◌, Some, ◌∙◌, ap, sym, subst, arith, rules, SFits, w64}
use Rattle.std.proofs.lemmas.Int.{to_z-of_z}
use Rattle.rbc_model.specs.Events.{with_authority}
use Rattle.rbc_model.specs.Lines.{line_length}
use Rattle.rbc_scene_laws.specs.Good.{IsGoodTrain}
use Rattle.rbc_scene.specs.TrainsOnTracks.{TrainOnTrack, train_on}
use Rattle.rbc_scene_reading.specs.Reading.{place_at, where_held}
use Rattle.rbc_scene_reading.proofs.HoldingLemmas.{held_is}
use Rattle.rbc_scene_reading.proofs.held.with_held.Goals as goal

pub returns-clause-train : goal.returns-clause-train
returns-clause-train c =
    let s = c.standing.inside in
    let train = train_on s.line s.report s.origin s.rear s.front s.front s.front in
    let f = c.in_ok-from.from in
    let t = c.in_ok-to.to in
    let on_line : t ≤ line_length s.line.track s.line.legs = let a = c.in_ok-to.ensures.place.1 in let b = c.length-length.ensures.length in omega (arith, a, b) in
    let behind : s.rear ≤ f = let a = c.if-from-rear.false in omega (arith, a) in
    let ordered : f ≤ t = let a = c.if-to-from.false in omega (arith, a) in
    let k = c.standing.invariant in
    let good : IsGoodTrain s.line.track (with_authority train train.line f t) = record { line = k.line; origin = k.origin; rear = k.rear; front = k.front; behind = behind; from = ordered; to = on_line } in
    subst (λ (standing : TrainOnTrack). Some c.told.result.train ≡ where_held standing.track standing.train c.args.from c.args.to) c.standing.view_is
    (ap Some c.told.ensures.train
    ∙ sym
    (held_is s.line.track train c.args.from c.args.to f t (subst (λ n. place_at n c.args.from ≡ Some f) c.from.ensures (subst (λ z. place_at c.from.result z ≡ Some f) (to_z-of_z w64 c.args.from (let fits : SFits w64 c.args.from = search rules in fits)) c.in_ok-from.ensures.place.0)) (subst (λ n. place_at n c.args.to ≡ Some t) c.from-2.ensures (subst (λ z. place_at c.from-2.result z ≡ Some t) (to_z-of_z w64 c.args.to (let fits : SFits w64 c.args.to = search rules in fits)) c.in_ok-to.ensures.place.0))
    good))
