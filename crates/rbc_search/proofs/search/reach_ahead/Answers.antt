use Rattle.std.proofs.Common.{◌≡◌, ℕ, suc, ◌-◌, ◌+◌, ◌<◌, Option, Some, length, ap, sym, ◌∙◌, subst, arith, inl, inr}
use Rattle.std.specs.Prelude.{IfSome}
use Rattle.std.specs.Option.{option_map_or}
use Rattle.rbc_model.specs.declared.refusals.Obstacle.TheVariants.{Own}
use Rattle.rbc_model.specs.Tracks.{Track, metres_of}
use Rattle.rbc_model.specs.Lines.{line_length, last_leg}
use Rattle.rbc_model.specs.Locks.{lengthened_fully, longer_ahead}
use Rattle.rbc_book.specs.OnTracks.{LineOnTrack}
use Rattle.rbc_reach_laws.specs.Nearest.{end_obstacle, walk_on}
use Rattle.rbc_scene_laws.specs.Good.{IsGoodLocks}
use Rattle.rbc_search.specs.declared.leg_search.Stop.{Stop}
use Rattle.rbc_search.specs.OnLegs.{told}
use Rattle.rbc_search.specs.Reaches.{ReachOnTrack, scene_of}
use Rattle.rbc_search.proofs.WayLemmas.{IsLonger-longer_ahead, ends, fully_more, goes_on, last-of_track, longer_length}
use Rattle.rbc_search.proofs.search.reach_ahead.Goals as goal

pub loop-added-init : goal.loop-added-init
loop-added-init c =
    let t = c.args.train.now.track in
    let all : length t.sections - 0 ≡ length t.sections = omega arith in
    record {
      track = ap (λ (l : LineOnTrack). l.track) c.in_ok-course.ensures ∙ c.requires.track;
      walked =
          ap (λ (m : ℕ). walk_on t (scene_of c.args.locks.now c.args.book.now.trains) c.args.train.now.train m c.in_ok-course.course.legs (line_length t c.in_ok-course.course.legs)) all
          ∙ ap (λ (l : LineOnTrack). walk_on t (scene_of c.args.locks.now c.args.book.now.trains) c.args.train.now.train (length t.sections) l.legs (line_length t l.legs)) c.in_ok-course.ensures;
      grown =
          ap (λ (m : ℕ). lengthened_fully m (longer_ahead c.args.locks.now) c.in_ok-course.course.legs) all
          ∙ ap (λ (l : LineOnTrack). lengthened_fully (length t.sections) (longer_ahead c.args.locks.now) l.legs) c.in_ok-course.ensures;
    }

pub lengthen_ahead-requires : goal.lengthen_ahead-requires
lengthen_ahead-requires c = subst (λ (x : Track). IsGoodLocks x c.args.locks.now) (sym c.loop-added.invariant.track) c.requires.locks

-- ---- where the locks lead no further

pub returns-then-not-branch-clause-track : goal.returns-then-not-branch-clause-track
returns-then-not-branch-clause-track c =
    let now : c.into_line.result ≡ c.loop-added.course = c.into_line.ensures ∙ c.in_ok-lengthen_ahead.ensures.stays c.if-not-branch.true in
    c.end_reach.ensures.track ∙ ap (λ (l : LineOnTrack). l.track) now ∙ c.loop-added.invariant.track ∙ sym c.requires.track

pub returns-then-not-branch-clause-stop : goal.returns-then-not-branch-clause-stop
returns-then-not-branch-clause-stop c =
    let t = c.args.train.now.track in
    let scene = scene_of c.args.locks.now c.args.book.now.trains in
    let line = c.loop-added.course.legs in
    let now : c.into_line.result ≡ c.loop-added.course = c.into_line.ensures ∙ c.in_ok-lengthen_ahead.ensures.stays c.if-not-branch.true in
    ends t scene c.args.train.now.train (length t.sections - c.loop-added._added) line _ c.end_reach.result.place c.end_reach.result.obstacle
    (c.loop-added.invariant.walked)
    (inr (rw c.if-not-branch.true at c.in_ok-lengthen_ahead.ensures.longer))
    (c.end_reach.ensures.place ∙ ap (λ (l : LineOnTrack). line_length l.track l.legs) now ∙ ap (λ (x : Track). line_length x line) c.loop-added.invariant.track)
    (c.end_reach.ensures.obstacle c.args.book.now.trains ∙ ap (λ (l : LineOnTrack). option_map_or (end_obstacle scene) (last_leg l.legs) Own) now)

pub returns-then-not-branch-clause-begins : goal.returns-then-not-branch-clause-begins
returns-then-not-branch-clause-begins c =
    let n = length c.args.train.now.track.sections - c.loop-added._added in
    let now : c.into_line.result ≡ c.loop-added.course = c.into_line.ensures ∙ c.in_ok-lengthen_ahead.ensures.stays c.if-not-branch.true in
    (n, ap (lengthened_fully n (longer_ahead c.args.locks.now)) (c.end_reach.ensures.line ∙ ap (λ (l : LineOnTrack). l.legs) now) ∙ c.loop-added.invariant.grown)

-- ---- where as many legs were added as may be

pub returns-clause-track : goal.returns-clause-track
returns-clause-track c =
    c.end_reach-2.ensures.track ∙ ap (λ (l : LineOnTrack). l.track) c.into_line-2.ensures ∙ c.loop-added.invariant.track ∙ sym c.requires.track

pub returns-clause-stop : goal.returns-clause-stop
returns-clause-stop c =
    let t = c.args.train.now.track in
    let scene = scene_of c.args.locks.now c.args.book.now.trains in
    let line = c.loop-added.course.legs in
    let count : c.section_count-count.result ≡ length t.sections =
    c.section_count-count.ensures ∙ ap (λ (l : LineOnTrack). length l.track.sections) (c.line.ensures.line ∙ c.in_ok-course.ensures) ∙ ap (λ (x : Track). length x.sections) c.requires.track in
    let test = c.loop-added-test.false in
    ends t scene c.args.train.now.train (length t.sections - c.loop-added._added) line _ c.end_reach-2.result.place c.end_reach-2.result.obstacle
    (c.loop-added.invariant.walked)
    (inl (omega arith))
    (c.end_reach-2.ensures.place ∙ ap (λ (l : LineOnTrack). line_length l.track l.legs) c.into_line-2.ensures ∙ ap (λ (x : Track). line_length x line) c.loop-added.invariant.track)
    (c.end_reach-2.ensures.obstacle c.args.book.now.trains ∙ ap (λ (l : LineOnTrack). option_map_or (end_obstacle scene) (last_leg l.legs) Own) c.into_line-2.ensures)

pub returns-clause-begins : goal.returns-clause-begins
returns-clause-begins c =
    let n = length c.args.train.now.track.sections - c.loop-added._added in
    (n, ap (lengthened_fully n (longer_ahead c.args.locks.now)) (c.end_reach-2.ensures.line ∙ ap (λ (l : LineOnTrack). l.legs) c.into_line-2.ensures) ∙ c.loop-added.invariant.grown)

-- ---- one leg more

pub stop_on-requires-clause-of_track : goal.stop_on-requires-clause-of_track
stop_on-requires-clause-of_track c =
    let longer = c.line-longer.result.now in
    let below = last-of_track longer.track longer.legs c.last.result c.known.ensures.line c.last.ensures.leg in
    let same = ap (λ (l : LineOnTrack). length l.track.sections) c.line-longer.ensures.line
    ∙ ap (λ (x : Track). length x.sections) (c.in_ok-lengthen_ahead.ensures.track ∙ c.loop-added.invariant.track) in
    omega arith

pub stop_on-requires-clause-fits : goal.stop_on-requires-clause-fits
stop_on-requires-clause-fits c =
    let t = c.args.train.now.track in
    let line = c.loop-added.course.legs in
    let longer = c.lengthen_ahead.new.self.legs in
    let same : Some longer ≡ longer_ahead c.args.locks.now line = rw c.if-not-branch.false at c.in_ok-lengthen_ahead.ensures.longer in
    let is = IsLonger-longer_ahead c.args.locks.now line longer c.last.result same (ap (λ (l : LineOnTrack). last_leg l.legs) (sym c.line-longer.ensures.line) ∙ c.last.ensures.leg) in
    let begin : c.length-begin.result ≡ line_length t line =
    c.length-begin.ensures.length ∙ ap (λ (l : LineOnTrack). line_length l.track l.legs) c.line-in-loop-added-2.ensures.line ∙ ap (λ (x : Track). line_length x line) c.loop-added.invariant.track in
    let length = longer_length t (scene_of c.args.locks.now c.args.book.now.trains) c.args.train.now.train line longer c.last.result is in
    let known = c.known.ensures.at_most in
    let whole = ap (λ (l : LineOnTrack). line_length l.track l.legs) c.line-longer.ensures.line ∙ ap (λ (x : Track). line_length x longer) (c.in_ok-lengthen_ahead.ensures.track ∙ c.loop-added.invariant.track) in
    omega arith

pub new-requires-in-Some : goal.new-requires-in-Some
new-requires-in-Some c =
    let t = c.args.train.now.track in
    let line = c.loop-added.course.legs in
    let longer = c.lengthen_ahead.new.self.legs in
    let same : Some longer ≡ longer_ahead c.args.locks.now line = rw c.if-not-branch.false at c.in_ok-lengthen_ahead.ensures.longer in
    let is = IsLonger-longer_ahead c.args.locks.now line longer c.last.result same (ap (λ (l : LineOnTrack). last_leg l.legs) (sym c.line-longer.ensures.line) ∙ c.last.ensures.leg) in
    let begin : c.length-begin.result ≡ line_length t line =
    c.length-begin.ensures.length ∙ ap (λ (l : LineOnTrack). line_length l.track l.legs) c.line-in-loop-added-2.ensures.line ∙ ap (λ (x : Track). line_length x line) c.loop-added.invariant.track in
    let length = longer_length t (scene_of c.args.locks.now c.args.book.now.trains) c.args.train.now.train line longer c.last.result is in
    let below = subst (λ (o : Option Stop). IfSome o (λ (stop : Stop). stop.place < c.length-begin.result + metres_of t c.last.result.section)) c.in-Some.is c.in_ok-first.ensures.on_leg in
    let whole = ap (λ (l : LineOnTrack). line_length l.track l.legs) c.into_line-in-Some.ensures ∙ ap (λ (x : Track). line_length x longer) (c.in_ok-lengthen_ahead.ensures.track ∙ c.loop-added.invariant.track) in
    omega arith

pub returns-in-Some-clause-track : goal.returns-in-Some-clause-track
returns-in-Some-clause-track c =
    ap (λ (r : ReachOnTrack). r.track) c.new-in-Some.ensures ∙ ap (λ (l : LineOnTrack). l.track) c.into_line-in-Some.ensures
    ∙ c.in_ok-lengthen_ahead.ensures.track ∙ c.loop-added.invariant.track ∙ sym c.requires.track

pub returns-in-Some-clause-stop : goal.returns-in-Some-clause-stop
returns-in-Some-clause-stop c =
    let t = c.args.train.now.track in
    let line = c.loop-added.course.legs in
    let longer = c.lengthen_ahead.new.self.legs in
    let same : Some longer ≡ longer_ahead c.args.locks.now line = rw c.if-not-branch.false at c.in_ok-lengthen_ahead.ensures.longer in
    let is = IsLonger-longer_ahead c.args.locks.now line longer c.last.result same (ap (λ (l : LineOnTrack). last_leg l.legs) (sym c.line-longer.ensures.line) ∙ c.last.ensures.leg) in
    let begin : c.length-begin.result ≡ line_length t line =
    c.length-begin.ensures.length ∙ ap (λ (l : LineOnTrack). line_length l.track l.legs) c.line-in-loop-added-2.ensures.line ∙ ap (λ (x : Track). line_length x line) c.loop-added.invariant.track in
    let was : last_leg line ≡ Some c.last-before.result = ap (λ (l : LineOnTrack). last_leg l.legs) (sym c.line-in-loop-added.ensures.line) ∙ c.last-before.ensures.leg in
    let count : c.section_count-count.result ≡ length t.sections =
    c.section_count-count.ensures ∙ ap (λ (l : LineOnTrack). length l.track.sections) (c.line.ensures.line ∙ c.in_ok-course.ensures) ∙ ap (λ (x : Track). length x.sections) c.requires.track in
    let test = c.loop-added-test.true in
    let n = length t.sections - (c.loop-added._added + 1) in
    let step : length t.sections - c.loop-added._added ≡ suc n = omega arith in
    (goes_on t (scene_of c.args.locks.now c.args.book.now.trains) c.args.train.now.train n line longer _ c.last-before.result c.last.result c.length-begin.result
    (ap (λ (m : ℕ). walk_on t (scene_of c.args.locks.now c.args.book.now.trains) c.args.train.now.train m line (line_length t line)) (sym step) ∙ c.loop-added.invariant.walked) was is begin)
    ∙ sym (ap (λ (o : Option Stop). told o (walk_on t (scene_of c.args.locks.now c.args.book.now.trains) c.args.train.now.train n longer (line_length t longer))) (sym c.in-Some.is)
    ∙ c.in_ok-first.ensures.found (walk_on t (scene_of c.args.locks.now c.args.book.now.trains) c.args.train.now.train n longer (line_length t longer)))
    ∙ ap (λ (r : ReachOnTrack). (r.place, r.obstacle)) (sym c.new-in-Some.ensures)

pub returns-in-Some-clause-begins : goal.returns-in-Some-clause-begins
returns-in-Some-clause-begins c =
    let t = c.args.train.now.track in
    let line = c.loop-added.course.legs in
    let longer = c.lengthen_ahead.new.self.legs in
    let same : Some longer ≡ longer_ahead c.args.locks.now line = rw c.if-not-branch.false at c.in_ok-lengthen_ahead.ensures.longer in
    let is = IsLonger-longer_ahead c.args.locks.now line longer c.last.result same (ap (λ (l : LineOnTrack). last_leg l.legs) (sym c.line-longer.ensures.line) ∙ c.last.ensures.leg) in
    let begin : c.length-begin.result ≡ line_length t line =
    c.length-begin.ensures.length ∙ ap (λ (l : LineOnTrack). line_length l.track l.legs) c.line-in-loop-added-2.ensures.line ∙ ap (λ (x : Track). line_length x line) c.loop-added.invariant.track in
    let count : c.section_count-count.result ≡ length t.sections =
    c.section_count-count.ensures ∙ ap (λ (l : LineOnTrack). length l.track.sections) (c.line.ensures.line ∙ c.in_ok-course.ensures) ∙ ap (λ (x : Track). length x.sections) c.requires.track in
    let test = c.loop-added-test.true in
    let n = length t.sections - (c.loop-added._added + 1) in
    let step : length t.sections - c.loop-added._added ≡ suc n = omega arith in (
      n,
      ap (λ (r : ReachOnTrack). lengthened_fully n (longer_ahead c.args.locks.now) r.line) c.new-in-Some.ensures
          ∙ ap (λ (l : LineOnTrack). lengthened_fully n (longer_ahead c.args.locks.now) l.legs) c.into_line-in-Some.ensures
          ∙ fully_more c.args.locks.now n line longer same
          ∙ ap (λ (m : ℕ). lengthened_fully m (longer_ahead c.args.locks.now) line) (sym step)
          ∙ c.loop-added.invariant.grown,
    )

pub loop-added-preserved : goal.loop-added-preserved
loop-added-preserved c =
    let t = c.args.train.now.track in
    let line = c.loop-added.course.legs in
    let longer = c.lengthen_ahead.new.self.legs in
    let same : Some longer ≡ longer_ahead c.args.locks.now line = rw c.if-not-branch.false at c.in_ok-lengthen_ahead.ensures.longer in
    let is = IsLonger-longer_ahead c.args.locks.now line longer c.last.result same (ap (λ (l : LineOnTrack). last_leg l.legs) (sym c.line-longer.ensures.line) ∙ c.last.ensures.leg) in
    let begin : c.length-begin.result ≡ line_length t line =
    c.length-begin.ensures.length ∙ ap (λ (l : LineOnTrack). line_length l.track l.legs) c.line-in-loop-added-2.ensures.line ∙ ap (λ (x : Track). line_length x line) c.loop-added.invariant.track in
    let was : last_leg line ≡ Some c.last-before.result = ap (λ (l : LineOnTrack). last_leg l.legs) (sym c.line-in-loop-added.ensures.line) ∙ c.last-before.ensures.leg in
    let count : c.section_count-count.result ≡ length t.sections =
    c.section_count-count.ensures ∙ ap (λ (l : LineOnTrack). length l.track.sections) (c.line.ensures.line ∙ c.in_ok-course.ensures) ∙ ap (λ (x : Track). length x.sections) c.requires.track in
    let test = c.loop-added-test.true in
    let n = length t.sections - (c.loop-added._added + 1) in
    let step : length t.sections - c.loop-added._added ≡ suc n = omega arith in
    record {
      track = c.in_ok-lengthen_ahead.ensures.track ∙ c.loop-added.invariant.track;
      walked =
          let rest = walk_on t (scene_of c.args.locks.now c.args.book.now.trains) c.args.train.now.train n longer (line_length t longer) in
          ap (λ (o : Option Stop). told o rest) (sym c.in_default.is)
          ∙ c.in_ok-first.ensures.found rest
          ∙ sym (goes_on t (scene_of c.args.locks.now c.args.book.now.trains) c.args.train.now.train n line longer _ c.last-before.result c.last.result c.length-begin.result
          (ap (λ (m : ℕ). walk_on t (scene_of c.args.locks.now c.args.book.now.trains) c.args.train.now.train m line (line_length t line)) (sym step) ∙ c.loop-added.invariant.walked) was is begin);
      grown = fully_more c.args.locks.now n line longer same
          ∙ ap (λ (m : ℕ). lengthened_fully m (longer_ahead c.args.locks.now) line) (sym step)
          ∙ c.loop-added.invariant.grown;
    }
