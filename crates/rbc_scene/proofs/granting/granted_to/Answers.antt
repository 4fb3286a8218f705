-- The search tells whether the end is safe, and its legs have the metre before it.
use Rattle.std.proofs.Common.{◌+◌, ap, sym, ◌∙◌, subst, ◌&&◌}
use Rattle.rbc_model.specs.Tracks.{Track}
use Rattle.rbc_model.specs.Lines.{Line}
use Rattle.rbc_model.specs.Views.{is_expressible_end, is_safe, reach}
use Rattle.rbc_scene_laws.specs.Good.{IsGoodLocks}
use Rattle.rbc_search.specs.Reaches.{BeginsWay, scene_of}
use Rattle.rbc_model.specs.Events.{line_to}
use Rattle.rbc_scene.proofs.GrantingLemmas.{safe, some_metres}
use Rattle.rbc_scene.proofs.granting.granted_to.Goals as goal

pub line_along-requires-clause-some : goal.line_along-requires-clause-some
line_along-requires-clause-some c =
    let scene = scene_of c.args.locks.now c.args.book.now.trains in
    some_metres c.args.train.now.track scene c.args.train.now.train _
    (sym (c.may_end_at.ensures.granted scene (c.in_ok-found.ensures.place ∙ ap (λ (t : Track). reach t scene c.args.train.now.train) (sym c.requires.track)))
    ∙ c.if-not-may_end_at.false)

pub returns-clause-granted : goal.returns-clause-granted
returns-clause-granted c =
    let scene = scene_of c.args.locks.now c.args.book.now.trains in
    let train = c.args.train.now.train in
    let of_track = c.requires.track in
    let origin = c.origin.ensures.origin in
    let metres = c.metres-2.ensures in
    safe c.args.book.now.track scene train c.args.distance c.may_end_at.result c.in_ok-line.line.legs c.start-from.result (c.origin.result + c.metres-2.result)
    (c.may_end_at.ensures.granted scene (c.in_ok-found.ensures.place ∙ ap (λ (t : Track). reach t scene train) (sym of_track))
    ∙ (λ j. is_safe (of_track j) scene train (origin j + metres j) && is_expressible_end (of_track j) train (origin j + metres j)))
    c.if-not-may_end_at.false
    (c.in_ok-line.ensures.legs scene (subst (λ (t : Track). IsGoodLocks t c.args.locks.now) (sym of_track) c.requires.locks)
    (subst (λ (legs : Line). BeginsWay c.args.train.now.track scene train legs) (sym (c.legs.ensures.legs ∙ c.line-way.ensures.legs))
    (subst (λ (t : Track). BeginsWay t scene train c.in_ok-found.found.line) (sym of_track) c.in_ok-found.ensures.line))
    ∙ (λ j. line_to (of_track j) scene train (origin j + metres j)))
    c.start-from.ensures
    (λ j. origin j + metres j)
