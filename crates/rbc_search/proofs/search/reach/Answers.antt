use Rattle.std.proofs.Common.{◌≡◌, ◌∙◌, ap, sym, subst, length, Option, refl}
use Rattle.rbc_model.specs.Lines.{Line, line_length}
use Rattle.rbc_model.specs.Locks.{lengthened_fully, longer_ahead}
use Rattle.rbc_model.specs.Obstacles.{way}
use Rattle.rbc_model.specs.Tracks.{Track}
use Rattle.rbc_model.specs.Views.{reach, stop}
use Rattle.rbc_book.specs.OnTracks.{LineOnTrack}
use Rattle.rbc_reach_laws.specs.Nearest.{walk_on}
use Rattle.rbc_search.specs.declared.leg_search.Stop.{Stop}
use Rattle.rbc_search.specs.OnLegs.{told}
use Rattle.rbc_search.specs.Reaches.{BeginsWay, ReachOnTrack, scene_of}
use Rattle.rbc_search.proofs.WayLemmas.{begins, if_ok, walked_reach, walked_stop}
use Rattle.rbc_search.proofs.search.reach.Goals as goal

-- ---- where the line itself has the first obstacle

pub returns-in-Some-clause-place : goal.returns-in-Some-clause-place
returns-in-Some-clause-place c =
    let t = c.args.train.now.track in
    let scene = scene_of c.args.locks.now c.args.book.now.trains in
    let train = c.args.train.now.train in
    let found = c.in-Some.found in
    let walk = c.in_ok-first.ensures.found (walk_on t scene train (length t.sections) train.line)
    ∙ ap (λ (o : Option Stop). told o (walk_on t scene train (length t.sections) train.line (line_length t train.line))) c.in-Some.is in
    ap (λ (r : ReachOnTrack). r.place) c.new.ensures
    ∙ subst (λ (x : Track). found.place ≡ reach x scene train) c.requires.track (walked_reach t scene train found.place found.obstacle walk)

pub returns-in-Some-clause-obstacle : goal.returns-in-Some-clause-obstacle
returns-in-Some-clause-obstacle c =
    let t = c.args.train.now.track in
    let scene = scene_of c.args.locks.now c.args.book.now.trains in
    let train = c.args.train.now.train in
    let found = c.in-Some.found in
    let walk = c.in_ok-first.ensures.found (walk_on t scene train (length t.sections) train.line)
    ∙ ap (λ (o : Option Stop). told o (walk_on t scene train (length t.sections) train.line (line_length t train.line))) c.in-Some.is in
    ap (λ (r : ReachOnTrack). r.obstacle) c.new.ensures
    ∙ subst (λ (x : Track). found.obstacle ≡ stop x scene train) c.requires.track (walked_stop t scene train found.place found.obstacle walk)

pub returns-in-Some-clause-line : goal.returns-in-Some-clause-line
returns-in-Some-clause-line c =
    let b = c.args.book.now.track in
    let scene = scene_of c.args.locks.now c.args.book.now.trains in
    let train = c.args.train.now.train in
    let legs : c.new.result.line ≡ train.line = ap (λ (r : ReachOnTrack). r.line) c.new.ensures ∙ ap (λ (l : LineOnTrack). l.legs) c.in_ok-line.ensures ∙ c.line.ensures.legs in
    subst (λ (l : Line). BeginsWay b scene train l) (sym legs) (begins c.args.locks.now (length b.sections) train.line (way b scene train) refl)

-- ---- where it lies ahead of the line

pub returns-clause-place : goal.returns-clause-place
returns-clause-place c =
    let t = c.args.train.now.track in
    let scene = scene_of c.args.locks.now c.args.book.now.trains in
    let train = c.args.train.now.train in
    let legs : train.line ≡ c.in_ok-line.line.legs = sym (ap (λ (l : LineOnTrack). l.legs) c.in_ok-line.ensures ∙ c.line.ensures.legs) in
    if_ok _ (λ found. found.place ≡ reach c.args.book.now.track scene train) c.reach_ahead.result
    (λ found walked.
    subst (λ (x : Track). found.place ≡ reach x scene train) c.requires.track
    (walked_reach t scene train found.place found.obstacle
    (c.in_ok-first.ensures.found (walk_on t scene train (length t.sections) train.line)
    ∙ ap (λ (o : Option Stop). told o (walk_on t scene train (length t.sections) train.line (line_length t train.line))) c.in_default.is
    ∙ ap (λ (l : Line). walk_on t scene train (length t.sections) l (line_length t l)) legs
    ∙ walked)))
    c.reach_ahead.ensures.stop

pub returns-clause-obstacle : goal.returns-clause-obstacle
returns-clause-obstacle c =
    let t = c.args.train.now.track in
    let scene = scene_of c.args.locks.now c.args.book.now.trains in
    let train = c.args.train.now.train in
    let legs : train.line ≡ c.in_ok-line.line.legs = sym (ap (λ (l : LineOnTrack). l.legs) c.in_ok-line.ensures ∙ c.line.ensures.legs) in
    if_ok _ (λ found. found.obstacle ≡ stop c.args.book.now.track scene train) c.reach_ahead.result
    (λ found walked.
    subst (λ (x : Track). found.obstacle ≡ stop x scene train) c.requires.track
    (walked_stop t scene train found.place found.obstacle
    (c.in_ok-first.ensures.found (walk_on t scene train (length t.sections) train.line)
    ∙ ap (λ (o : Option Stop). told o (walk_on t scene train (length t.sections) train.line (line_length t train.line))) c.in_default.is
    ∙ ap (λ (l : Line). walk_on t scene train (length t.sections) l (line_length t l)) legs
    ∙ walked)))
    c.reach_ahead.ensures.stop

pub returns-clause-line : goal.returns-clause-line
returns-clause-line c =
    let b = c.args.book.now.track in
    let locks = c.args.locks.now in
    let scene = scene_of locks c.args.book.now.trains in
    let train = c.args.train.now.train in
    let legs : train.line ≡ c.in_ok-line.line.legs = sym (ap (λ (l : LineOnTrack). l.legs) c.in_ok-line.ensures ∙ c.line.ensures.legs) in
    if_ok _ (λ found. BeginsWay b scene train found.line) c.reach_ahead.result
    (λ found grown.
    begins locks grown.0 found.line (way b scene train)
    (grown.1
    ∙ ap (λ (l : Line). lengthened_fully (length c.args.train.now.track.sections) (longer_ahead locks) l) (sym legs)
    ∙ ap (λ (x : Track). lengthened_fully (length x.sections) (longer_ahead locks) train.line) c.requires.track))
    c.reach_ahead.ensures.begins
