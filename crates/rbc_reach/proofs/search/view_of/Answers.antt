-- The search finds the definition's reach and what stands there, and its legs reach the end that is shown.
use Rattle.std.proofs.Common.{◌≡◌, ◌-◌, ◌≤◌, Err, Ok, ap, sym, ◌∙◌, arith, of_z, subst, to_z, to_z-of_z, w64}
use Rattle.rbc_model.proofs.ScaleLemmas.{expressible_far}
use Rattle.rbc_model.specs.declared.refusals.ViewFault.TheVariants.{Blocked}
use Rattle.rbc_model.specs.Lines.{line_length}
use Rattle.rbc_model.specs.Tracks.{Track}
use Rattle.rbc_model.specs.Views.{from_group, greatest_end, reach}
use Rattle.rbc_scene.specs.Reaches.{ReachOnTrack, scene_of}
use Rattle.rbc_reach.proofs.FoundLemmas.{blocked, end_is, shown}
use Rattle.rbc_reach.proofs.search.view_of.Goals as goal

pub view_to-requires-clause-ahead : goal.view_to-requires-clause-ahead
view_to-requires-clause-ahead c =
    let scene = scene_of c.args.locks.now c.args.book.now.trains in
    let train = c.args.train.now.train in
    let at = c.in_ok-found.ensures in
    let of_track = c.requires.track in
    let b = end_is c.args.book.now.track scene train c.in_ok-found.found at.track at.place at.obstacle
    c.in-Some.end c.greatest_end.result
    (c.greatest_end.ensures.greatest scene (at.place ∙ ap (λ (t : Track). reach t scene train) (sym of_track)) ∙ ap (λ (t : Track). greatest_end t scene train) of_track)
    c.in-Some.is in
    b.ahead

pub view_to-requires-clause-expressible : goal.view_to-requires-clause-expressible
view_to-requires-clause-expressible c =
    let scene = scene_of c.args.locks.now c.args.book.now.trains in
    let train = c.args.train.now.train in
    let at = c.in_ok-found.ensures in
    let of_track = c.requires.track in
    let b = end_is c.args.book.now.track scene train c.in_ok-found.found at.track at.place at.obstacle
    c.in-Some.end c.greatest_end.result
    (c.greatest_end.ensures.greatest scene (at.place ∙ ap (λ (t : Track). reach t scene train) (sym of_track)) ∙ ap (λ (t : Track). greatest_end t scene train) of_track)
    c.in-Some.is in
    expressible_far c.args.book.now.track.format (c.in-Some.end - train.origin) b.expressible

pub returns-in-Some : goal.returns-in-Some
returns-in-Some c =
    let scene = scene_of c.args.locks.now c.args.book.now.trains in
    let train = c.args.train.now.train in
    let found = c.in_ok-found.found in
    let at = c.in_ok-found.ensures in
    let of_track = c.requires.track in
    shown c.args.book.now.track scene train found at.track at.place at.obstacle
    c.in-Some.end c.greatest_end.result
    (c.greatest_end.ensures.greatest scene (at.place ∙ ap (λ (t : Track). reach t scene train) (sym of_track)) ∙ ap (λ (t : Track). greatest_end t scene train) of_track)
    c.in-Some.is at.line
    (subst (λ (t : Track). found.place ≤ line_length t found.line) at.track (subst (λ (r : ReachOnTrack). r.place ≤ line_length r.track r.line) c.found.view_is c.found.invariant))
    ∙ ap Ok (sym c.in_ok-view_to-in-Some.ensures)

pub returns : goal.returns
returns c =
    let scene = scene_of c.args.locks.now c.args.book.now.trains in
    let train = c.args.train.now.train in
    let found = c.in_ok-found.found in
    let at = c.in_ok-found.ensures in
    let of_track = c.requires.track in
    let fits = c.from_group-at.type_inv in
    let told : to_z w64 (of_z w64 c.from_group-at.result) ≡ c.from_group-at.result = grind (arith, to_z-of_z) in
    let place = told ∙ c.from_group-at.ensures ∙ ap (from_group train) c.place.ensures.place in
    blocked c.args.book.now.track scene train found at.track at.place at.obstacle c.greatest_end.result
    (c.greatest_end.ensures.greatest scene (at.place ∙ ap (λ (t : Track). reach t scene train) (sym of_track)) ∙ ap (λ (t : Track). greatest_end t scene train) of_track)
    c.in-None.is
    ∙ sym (λ j. Err (Blocked (c.obstacle.ensures j) (place j)))
