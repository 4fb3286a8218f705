use Rattle.std.proofs.Common.{◌≡◌, ◌∙◌, All, ap, arith, subst, sym}
use Rattle.std.proofs.lemmas.List.Elements.{All-filter}
use Rattle.rbc_model.specs.Scenes.{others}
use Rattle.rbc_model.specs.Tracks.{Track}
use Rattle.rbc_scene_laws.specs.Good.{IsGoodTrain}
use Rattle.rbc_search.specs.Reaches.{scene_of}
use Rattle.rbc_search.specs.Stretches.{but, stretches_in, stretches_of}
use Rattle.rbc_search.proofs.BehindLemmas.{nothing_behind}
use Rattle.rbc_search.proofs.StopOnLegLemmas.{found_on_leg, none_on_leg}
use Rattle.rbc_search.proofs.leg_search.stop_on.Goals as goal
use Rattle.rbc_search.proofs.leg_search.stop_on.Goals.{After-known}

good : (c : After-known) → All (IsGoodTrain c.args.train.now.track) (others (scene_of c.args.locks.now c.args.book.now.trains) c.args.train.now.train)
good c = All-filter _ (IsGoodTrain c.args.train.now.track) c.args.book.now.trains (subst (λ (t : Track). All (IsGoodTrain t) c.args.book.now.trains) (sym c.requires.track) c.known.ensures.trains)

row : (c : After-known) → stretches_in c.in_ok-others.others ≡ stretches_of c.args.train.now.track (others (scene_of c.args.locks.now c.args.book.now.trains) c.args.train.now.train) c.args.way_leg.now.leg.section
row c =
    c.in_ok-others.ensures
    ∙ ap (λ n. stretches_of c.args.book.now.track (but n c.args.book.now.trains) c.args.way_leg.now.leg.section) c.id.ensures
    ∙ ap (λ (t : Track). stretches_of t (others (scene_of c.args.locks.now c.args.book.now.trains) c.args.train.now.train) c.args.way_leg.now.leg.section) (sym c.requires.track)

pub returns-then-first-metres-clause-found : goal.returns-then-first-metres-clause-found
returns-then-first-metres-clause-found c rest =
    nothing_behind c.args.train.now.track (scene_of c.args.locks.now c.args.book.now.trains) c.args.train.now.train c.args.way_leg.now.before c.args.way_leg.now.begin c.args.way_leg.now.leg
    c.metres_of-metres.result c.saturating_sub-first.result rest (grind arith) (grind arith) c.if-first-metres.true

pub returns-then-clear-metres-clause-found : goal.returns-then-clear-metres-clause-found
returns-then-clear-metres-clause-found c rest =
    let a = (goal.at.returns-then-clear-metres-clause-found c).After-known in
    found_on_leg c.args.train.now.track (scene_of c.args.locks.now c.args.book.now.trains) c.args.train.now.train c.args.way_leg.now.before c.args.way_leg.now.begin c.args.way_leg.now.leg
    c.as_slice.result.now c.is_locked-locked.result c.metres_of-metres.result c.saturating_sub-first.result c.free_of-free.result c.clear_of-clear.result (good a)
    (c.as_slice.ensures ∙ row a) c.is_locked-locked.ensures (grind arith) (grind arith) c.free_of-free.ensures.near c.clear_of-clear.ensures.clear c.obstacle_at.result rest c.obstacle_at.ensures c.if-clear-metres.true

pub returns-clause-found : goal.returns-clause-found
returns-clause-found c rest =
    let a = (goal.at.returns-clause-found c).After-known in
    none_on_leg c.args.train.now.track (scene_of c.args.locks.now c.args.book.now.trains) c.args.train.now.train c.args.way_leg.now.before c.args.way_leg.now.begin c.args.way_leg.now.leg
    c.as_slice.result.now c.is_locked-locked.result c.metres_of-metres.result c.saturating_sub-first.result c.free_of-free.result c.clear_of-clear.result (good a)
    (c.as_slice.ensures ∙ row a) c.is_locked-locked.ensures (grind arith) (grind arith) c.free_of-free.ensures.near c.clear_of-clear.ensures.clear rest c.if-clear-metres.false
