use Rattle.std.proofs.Common.{◌≡◌, ap, sym, ◌∙◌, length, Result, Ok, arith}
use Rattle.rbc_model.specs.declared.refusals.Refusal.{Refusal}
use Rattle.rbc_model.specs.declared.refusals.Refusal.TheVariants.{Unplaced}
use Rattle.rbc_model.specs.Tracks.{Track}
use Rattle.rbc_model.specs.Lines.{Line, line_length}
use Rattle.rbc_model.specs.Locks.{longer_ahead}
use Rattle.rbc_model.specs.Placing.{leg_told, front_on, has_front}
use Rattle.rbc_line.specs.OnTracks.{LineOnTrack}
use Rattle.rbc_extent.specs.PlacingSteps.{front_step}
use Rattle.rbc_extent.proofs.LengthenedLemmas.{found_at_once}
use Rattle.rbc_extent.proofs.CoveringLemmas.{le_test, flag-none, flag-some, lengthening-more, lengthening-found, lengthening-stuck, lengthening-out, one_ahead, front-longer, told-longer}
use Rattle.rbc_extent.proofs.covering.lengthened_to_front.Goals as goal
use Rattle.std.proofs.lemmas.Bool.{lt-leb}

pub returns-then-front-length-clause-line : goal.returns-then-front-length-clause-line
unfolding front_step
returns-then-front-length-clause-line c =
    let origin = c.origin_on.ensures.origin in
    let ahead = c.metres_ahead.ensures.ahead in
    let metres = c.length.ensures.length in
    found_at_once (longer_ahead c.args.locks.now) (has_front c.args.line.track c.args.group.now c.args.report.now) (length c.args.line.track.sections) c.args.line.legs Unplaced
    (le_test (front_on c.args.line.track c.args.group.now c.args.report.now c.args.line.legs) (line_length c.args.line.track c.args.line.legs) (omega arith))

pub returns-then-not-branch-clause-line : goal.returns-then-not-branch-clause-line
unfolding front_step
returns-then-not-branch-clause-line c =
    lengthening-stuck (longer_ahead c.args.locks.now) (has_front c.args.line.track c.args.group.now c.args.report.now) c.args.line c.section_count-sections.result Unplaced c.loop-added._added c.loop-added.course c.loop-added.invariant.lengthening c.loop-added-test.true
    (flag-none c.in_ok-lengthen_ahead.field-0 c.lengthen_ahead.new.self.legs (longer_ahead c.args.locks.now c.loop-added.course.legs) c.in_ok-lengthen_ahead.ensures.longer c.if-not-branch.true)

pub returns-then-front-longer-clause-line : goal.returns-then-front-longer-clause-line
unfolding front_step
returns-then-front-longer-clause-line c =
    let more = flag-some c.in_ok-lengthen_ahead.field-0 c.lengthen_ahead.new.self.legs (longer_ahead c.args.locks.now c.loop-added.course.legs) c.in_ok-lengthen_ahead.ensures.longer c.if-not-branch.false in
    let one = one_ahead c.args.locks.now c.loop-added.course.legs c.lengthen_ahead.new.self.legs more in
    let same = front-longer c.args.line.track c.args.group.now c.args.report.now c.loop-added.course.legs c.lengthen_ahead.new.self.legs one c.loop-added.invariant.told in
    let metres : c.length-longer.result ≡ line_length c.args.line.track c.lengthen_ahead.new.self.legs =
    c.length-longer.ensures.length ∙ ap (λ (l : LineOnTrack). line_length l.track l.legs) c.line.ensures.line
    ∙ ap (λ (t : Track). line_length t c.lengthen_ahead.new.self.legs) (c.in_ok-lengthen_ahead.ensures.track ∙ c.loop-added.invariant.lengthening.track) in
    let front = c.loop-added.invariant.front_is in
    lengthening-found (longer_ahead c.args.locks.now) (has_front c.args.line.track c.args.group.now c.args.report.now) c.args.line c.section_count-sections.result Unplaced c.loop-added._added c.loop-added.course c.lengthen_ahead.new.self c.loop-added.invariant.lengthening c.loop-added-test.true more
    (le_test (front_on c.args.line.track c.args.group.now c.args.report.now c.lengthen_ahead.new.self.legs) (line_length c.args.line.track c.lengthen_ahead.new.self.legs) (omega arith))
    ∙ (let answer : LineOnTrack → Result Line Refusal = λ l. Ok l.legs in ap answer (sym c.into_line.ensures))

pub returns-then-front-longer-clause-front : goal.returns-then-front-longer-clause-front
returns-then-front-longer-clause-front c =
    let more = flag-some c.in_ok-lengthen_ahead.field-0 c.lengthen_ahead.new.self.legs (longer_ahead c.args.locks.now c.loop-added.course.legs) c.in_ok-lengthen_ahead.ensures.longer c.if-not-branch.false in
    let one = one_ahead c.args.locks.now c.loop-added.course.legs c.lengthen_ahead.new.self.legs more in
    let same = front-longer c.args.line.track c.args.group.now c.args.report.now c.loop-added.course.legs c.lengthen_ahead.new.self.legs one c.loop-added.invariant.told in
    let metres : c.length-longer.result ≡ line_length c.args.line.track c.lengthen_ahead.new.self.legs =
    c.length-longer.ensures.length ∙ ap (λ (l : LineOnTrack). line_length l.track l.legs) c.line.ensures.line
    ∙ ap (λ (t : Track). line_length t c.lengthen_ahead.new.self.legs) (c.in_ok-lengthen_ahead.ensures.track ∙ c.loop-added.invariant.lengthening.track) in
    let front = c.loop-added.invariant.front_is in
    ap (λ (l : LineOnTrack). has_front c.args.line.track c.args.group.now c.args.report.now l.legs) c.into_line.ensures ∙ le_test (front_on c.args.line.track c.args.group.now c.args.report.now c.lengthen_ahead.new.self.legs) (line_length c.args.line.track c.lengthen_ahead.new.self.legs) (omega arith)

pub loop-added-preserved : goal.loop-added-preserved
loop-added-preserved c =
    let more = flag-some c.in_ok-lengthen_ahead.field-0 c.lengthen_ahead.new.self.legs (longer_ahead c.args.locks.now c.loop-added.course.legs) c.in_ok-lengthen_ahead.ensures.longer c.if-not-branch.false in
    let one = one_ahead c.args.locks.now c.loop-added.course.legs c.lengthen_ahead.new.self.legs more in
    let same = front-longer c.args.line.track c.args.group.now c.args.report.now c.loop-added.course.legs c.lengthen_ahead.new.self.legs one c.loop-added.invariant.told in
    let metres : c.length-longer.result ≡ line_length c.args.line.track c.lengthen_ahead.new.self.legs =
    c.length-longer.ensures.length ∙ ap (λ (l : LineOnTrack). line_length l.track l.legs) c.line.ensures.line
    ∙ ap (λ (t : Track). line_length t c.lengthen_ahead.new.self.legs) (c.in_ok-lengthen_ahead.ensures.track ∙ c.loop-added.invariant.lengthening.track) in
    let front = c.loop-added.invariant.front_is in
    record {
      lengthening = lengthening-more (longer_ahead c.args.locks.now) (has_front c.args.line.track c.args.group.now c.args.report.now) c.args.line c.section_count-sections.result c.loop-added._added c.loop-added.course c.lengthen_ahead.new.self c.loop-added.invariant.lengthening c.loop-added-test.true more
          (lt-leb (front_on c.args.line.track c.args.group.now c.args.report.now c.lengthen_ahead.new.self.legs) (line_length c.args.line.track c.lengthen_ahead.new.self.legs) (omega arith)) c.in_ok-lengthen_ahead.ensures.track;
      told = told-longer c.loop-added.course.legs c.lengthen_ahead.new.self.legs (leg_told c.args.group.now c.args.report.now) one c.loop-added.invariant.told;
      front_is = front ∙ sym same;
    }

pub returns-clause-line : goal.returns-clause-line
unfolding front_step
returns-clause-line c =
    lengthening-out (longer_ahead c.args.locks.now) (has_front c.args.line.track c.args.group.now c.args.report.now) c.args.line c.section_count-sections.result Unplaced c.loop-added._added c.loop-added.course c.loop-added.invariant.lengthening c.loop-added-test.false
