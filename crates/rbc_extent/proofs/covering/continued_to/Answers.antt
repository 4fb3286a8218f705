use Rattle.std.proofs.Common.{◌≡◌, ap, sym, ◌∙◌, true, length, Some, Result, Ok}
use Rattle.rbc_model.specs.declared.refusals.Refusal.{Refusal}
use Rattle.rbc_model.specs.declared.refusals.Refusal.TheVariants.{Offline}
use Rattle.rbc_model.specs.Lines.{Line, has_leg, last_leg}
use Rattle.rbc_model.specs.Locks.{longer_ahead}
use Rattle.rbc_line.specs.OnTracks.{LineOnTrack}
use Rattle.rbc_extent.proofs.LengthenedLemmas.{found_at_once}
use Rattle.rbc_extent.proofs.CoveringLemmas.{flag-none, flag-some, lengthening-begin, lengthening-more, lengthening-found, lengthening-stuck, lengthening-out, lengthening-locks, one_ahead, has_leg-longer}
use Rattle.rbc_extent.proofs.covering.continued_to.Goals as goal

pub returns-then-has_leg-clause-line : goal.returns-then-has_leg-clause-line
returns-then-has_leg-clause-line c =
    found_at_once (longer_ahead c.args.locks.now) (λ l. has_leg l c.args.leg) (length c.args.line.track.sections) c.args.line.legs Offline (sym c.has_leg.ensures ∙ c.if-has_leg.true)

pub loop-added-init : goal.loop-added-init
loop-added-init c =
    lengthening-begin (longer_ahead c.args.locks.now) (λ l. has_leg l c.args.leg) c.args.line c.section_count-sections.result c.in_ok-course.course c.in_ok-course.ensures c.section_count-sections.ensures
    (sym c.has_leg.ensures ∙ c.if-has_leg.false)

pub lengthen_ahead-requires : goal.lengthen_ahead-requires
lengthen_ahead-requires c =
    lengthening-locks (longer_ahead c.args.locks.now) (λ l. has_leg l c.args.leg) c.args.line c.section_count-sections.result c.args.locks.now c.loop-added._added c.loop-added.course c.loop-added.invariant c.requires

pub returns-then-not-branch-clause-line : goal.returns-then-not-branch-clause-line
returns-then-not-branch-clause-line c =
    lengthening-stuck (longer_ahead c.args.locks.now) (λ l. has_leg l c.args.leg) c.args.line c.section_count-sections.result Offline c.loop-added._added c.loop-added.course c.loop-added.invariant c.loop-added-test.true
    (flag-none c.in_ok-lengthen_ahead.field-0 c.lengthen_ahead.new.self.legs (longer_ahead c.args.locks.now c.loop-added.course.legs) c.in_ok-lengthen_ahead.ensures.longer c.if-not-branch.true)

pub returns-then-is_same_leg-clause-line : goal.returns-then-is_same_leg-clause-line
returns-then-is_same_leg-clause-line c =
    let more = flag-some c.in_ok-lengthen_ahead.field-0 c.lengthen_ahead.new.self.legs (longer_ahead c.args.locks.now c.loop-added.course.legs) c.in_ok-lengthen_ahead.ensures.longer c.if-not-branch.false in
    let one = one_ahead c.args.locks.now c.loop-added.course.legs c.lengthen_ahead.new.self.legs more in
    let last : last_leg c.lengthen_ahead.new.self.legs ≡ Some c.last-last.result = ap (λ (l : LineOnTrack). last_leg l.legs) (sym c.line.ensures.line) ∙ c.last-last.ensures.leg in
    let has : has_leg c.lengthen_ahead.new.self.legs c.args.leg ≡ true =
    has_leg-longer c.loop-added.course.legs c.lengthen_ahead.new.self.legs c.args.leg c.last-last.result one last c.loop-added.invariant.under_way.not_yet ∙ sym c.is_same_leg.ensures ∙ c.if-is_same_leg.true in
    lengthening-found (longer_ahead c.args.locks.now) (λ l. has_leg l c.args.leg) c.args.line c.section_count-sections.result Offline c.loop-added._added c.loop-added.course c.lengthen_ahead.new.self c.loop-added.invariant c.loop-added-test.true more has
    ∙ (let answer : LineOnTrack → Result Line Refusal = λ l. Ok l.legs in ap answer (sym c.into_line.ensures))

pub returns-then-is_same_leg-clause-track : goal.returns-then-is_same_leg-clause-track
returns-then-is_same_leg-clause-track c = ap (λ (l : LineOnTrack). l.track) c.into_line.ensures ∙ c.in_ok-lengthen_ahead.ensures.track ∙ c.loop-added.invariant.track

pub returns-then-is_same_leg-clause-has : goal.returns-then-is_same_leg-clause-has
returns-then-is_same_leg-clause-has c =
    let more = flag-some c.in_ok-lengthen_ahead.field-0 c.lengthen_ahead.new.self.legs (longer_ahead c.args.locks.now c.loop-added.course.legs) c.in_ok-lengthen_ahead.ensures.longer c.if-not-branch.false in
    let one = one_ahead c.args.locks.now c.loop-added.course.legs c.lengthen_ahead.new.self.legs more in
    let last : last_leg c.lengthen_ahead.new.self.legs ≡ Some c.last-last.result = ap (λ (l : LineOnTrack). last_leg l.legs) (sym c.line.ensures.line) ∙ c.last-last.ensures.leg in
    ap (λ (l : LineOnTrack). has_leg l.legs c.args.leg) c.into_line.ensures
    ∙ has_leg-longer c.loop-added.course.legs c.lengthen_ahead.new.self.legs c.args.leg c.last-last.result one last c.loop-added.invariant.under_way.not_yet ∙ sym c.is_same_leg.ensures ∙ c.if-is_same_leg.true

pub loop-added-preserved : goal.loop-added-preserved
loop-added-preserved c =
    let more = flag-some c.in_ok-lengthen_ahead.field-0 c.lengthen_ahead.new.self.legs (longer_ahead c.args.locks.now c.loop-added.course.legs) c.in_ok-lengthen_ahead.ensures.longer c.if-not-branch.false in
    let one = one_ahead c.args.locks.now c.loop-added.course.legs c.lengthen_ahead.new.self.legs more in
    let last : last_leg c.lengthen_ahead.new.self.legs ≡ Some c.last-last.result = ap (λ (l : LineOnTrack). last_leg l.legs) (sym c.line.ensures.line) ∙ c.last-last.ensures.leg in
    lengthening-more (longer_ahead c.args.locks.now) (λ l. has_leg l c.args.leg) c.args.line c.section_count-sections.result c.loop-added._added c.loop-added.course c.lengthen_ahead.new.self c.loop-added.invariant c.loop-added-test.true more
    (has_leg-longer c.loop-added.course.legs c.lengthen_ahead.new.self.legs c.args.leg c.last-last.result one last c.loop-added.invariant.under_way.not_yet ∙ sym c.is_same_leg.ensures ∙ c.if-is_same_leg.false)
    c.in_ok-lengthen_ahead.ensures.track

pub returns-clause-line : goal.returns-clause-line
returns-clause-line c =
    lengthening-out (longer_ahead c.args.locks.now) (λ l. has_leg l c.args.leg) c.args.line c.section_count-sections.result Offline c.loop-added._added c.loop-added.course c.loop-added.invariant c.loop-added-test.false
