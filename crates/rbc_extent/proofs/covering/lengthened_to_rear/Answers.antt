use Rattle.std.proofs.Common.{◌≡◌, ◌+◌, ◌-◌, ap, sym, ◌∙◌, subst, length, Result, Ok, arith, nat_le}
use Rattle.rbc_model.specs.declared.refusals.Refusal.{Refusal}
use Rattle.rbc_model.specs.declared.refusals.Refusal.TheVariants.{Unplaced}
use Rattle.rbc_model.specs.Tracks.{Track}
use Rattle.rbc_model.specs.Lines.{Line, IsLine, has_leg, line_length}
use Rattle.rbc_model.specs.Locks.{longer_back}
use Rattle.rbc_model.specs.Placing.{leg_told, origin_on, has_rear}
use Rattle.rbc_line.specs.OnTracks.{LineOnTrack}
use Rattle.rbc_extent.specs.PlacingSteps.{rear_step}
use Rattle.rbc_extent.proofs.LengthenedLemmas.{found_at_once}
use Rattle.rbc_extent.proofs.CoveringLemmas.{flag-none, flag-some, lengthening-more, lengthening-found, lengthening-stuck, lengthening-out, one_back}
use Rattle.rbc_extent.proofs.covering.lengthened_to_rear.Goals as goal

pub returns-then-has_rear_from-clause-line : goal.returns-then-has_rear_from-clause-line
unfolding rear_step
returns-then-has_rear_from-clause-line c =
    found_at_once (longer_back c.args.locks.now) (has_rear c.args.line.track c.args.group.now c.args.report.now) (length c.args.line.track.sections) c.args.line.legs Unplaced
    (ap (λ o. nat_le (c.args.report.now.over + c.args.report.now.length) (o + c.args.report.now.distance)) (sym c.origin_on-origin.ensures.origin) ∙ sym c.has_rear_from.ensures ∙ c.if-has_rear_from.true)

pub returns-then-not-branch-clause-line : goal.returns-then-not-branch-clause-line
unfolding rear_step
returns-then-not-branch-clause-line c =
    lengthening-stuck (longer_back c.args.locks.now) (has_rear c.args.line.track c.args.group.now c.args.report.now) c.args.line c.section_count-sections.result Unplaced c.loop-added._added c.loop-added.course c.loop-added.invariant.lengthening c.loop-added-test.true
    (flag-none c.in_ok-lengthen_back.field-0 c.lengthen_back.new.self.legs (longer_back c.args.locks.now c.loop-added.course.legs) c.in_ok-lengthen_back.ensures.longer c.if-not-branch.true)

pub overflow_sub-origin : goal.overflow_sub-origin
overflow_sub-origin c =
    let more = flag-some c.in_ok-lengthen_back.field-0 c.lengthen_back.new.self.legs (longer_back c.args.locks.now c.loop-added.course.legs) c.in_ok-lengthen_back.ensures.longer c.if-not-branch.false in
    let stands : IsLine c.loop-added.course.track c.loop-added.course.legs = subst (λ (l : LineOnTrack). IsLine l.track l.legs) c.line-shorter.ensures.line c.known-in-loop-added.ensures.line in
    let is_line : IsLine c.args.line.track c.loop-added.course.legs = subst (λ (t : Track). IsLine t c.loop-added.course.legs) c.loop-added.invariant.lengthening.track stands in
    let back = one_back c.args.line.track c.args.locks.now c.args.group.now c.args.report.now c.loop-added.course.legs c.lengthen_back.new.self.legs c.known.ensures.sound c.requires.locks is_line c.loop-added.invariant.told more in
    let before : c.length-before.result ≡ line_length c.args.line.track c.loop-added.course.legs =
    c.length-before.ensures.length ∙ ap (λ (l : LineOnTrack). line_length l.track l.legs) c.line-shorter.ensures.line
    ∙ ap (λ (t : Track). line_length t c.loop-added.course.legs) c.loop-added.invariant.lengthening.track in
    let longer : c.length.result ≡ line_length c.args.line.track c.lengthen_back.new.self.legs =
    c.length.ensures.length ∙ ap (λ (l : LineOnTrack). line_length l.track l.legs) c.line-longer.ensures.line
    ∙ ap (λ (t : Track). line_length t c.lengthen_back.new.self.legs) (c.in_ok-lengthen_back.ensures.track ∙ c.loop-added.invariant.lengthening.track) in
    let much = back.more in
    omega arith

pub returns-then-has_rear_from-2-clause-line : goal.returns-then-has_rear_from-2-clause-line
unfolding rear_step
returns-then-has_rear_from-2-clause-line c =
    let more = flag-some c.in_ok-lengthen_back.field-0 c.lengthen_back.new.self.legs (longer_back c.args.locks.now c.loop-added.course.legs) c.in_ok-lengthen_back.ensures.longer c.if-not-branch.false in
    let stands : IsLine c.loop-added.course.track c.loop-added.course.legs = subst (λ (l : LineOnTrack). IsLine l.track l.legs) c.line-shorter.ensures.line c.known-in-loop-added.ensures.line in
    let is_line : IsLine c.args.line.track c.loop-added.course.legs = subst (λ (t : Track). IsLine t c.loop-added.course.legs) c.loop-added.invariant.lengthening.track stands in
    let back = one_back c.args.line.track c.args.locks.now c.args.group.now c.args.report.now c.loop-added.course.legs c.lengthen_back.new.self.legs c.known.ensures.sound c.requires.locks is_line c.loop-added.invariant.told more in
    let before : c.length-before.result ≡ line_length c.args.line.track c.loop-added.course.legs =
    c.length-before.ensures.length ∙ ap (λ (l : LineOnTrack). line_length l.track l.legs) c.line-shorter.ensures.line
    ∙ ap (λ (t : Track). line_length t c.loop-added.course.legs) c.loop-added.invariant.lengthening.track in
    let longer : c.length.result ≡ line_length c.args.line.track c.lengthen_back.new.self.legs =
    c.length.ensures.length ∙ ap (λ (l : LineOnTrack). line_length l.track l.legs) c.line-longer.ensures.line
    ∙ ap (λ (t : Track). line_length t c.lengthen_back.new.self.legs) (c.in_ok-lengthen_back.ensures.track ∙ c.loop-added.invariant.lengthening.track) in
    let was = c.loop-added.invariant.origin_is in
    let within = c.loop-added.invariant.within in
    let now : c.loop-added.origin + (c.length.result - c.length-before.result) ≡ origin_on c.args.line.track c.args.group.now c.args.report.now c.lengthen_back.new.self.legs =
    (let moved = back.origin in omega arith) in
    lengthening-found (longer_back c.args.locks.now) (has_rear c.args.line.track c.args.group.now c.args.report.now) c.args.line c.section_count-sections.result Unplaced c.loop-added._added c.loop-added.course c.lengthen_back.new.self c.loop-added.invariant.lengthening c.loop-added-test.true more
    (ap (λ o. nat_le (c.args.report.now.over + c.args.report.now.length) (o + c.args.report.now.distance)) (sym now) ∙ sym c.has_rear_from-in-loop-added.ensures ∙ c.if-has_rear_from-2.true)
    ∙ (let answer : LineOnTrack → Result Line Refusal = λ l. Ok l.legs in ap answer (sym c.into_line.ensures))

pub returns-then-has_rear_from-2-clause-told : goal.returns-then-has_rear_from-2-clause-told
returns-then-has_rear_from-2-clause-told c =
    let more = flag-some c.in_ok-lengthen_back.field-0 c.lengthen_back.new.self.legs (longer_back c.args.locks.now c.loop-added.course.legs) c.in_ok-lengthen_back.ensures.longer c.if-not-branch.false in
    let stands : IsLine c.loop-added.course.track c.loop-added.course.legs = subst (λ (l : LineOnTrack). IsLine l.track l.legs) c.line-shorter.ensures.line c.known-in-loop-added.ensures.line in
    let is_line : IsLine c.args.line.track c.loop-added.course.legs = subst (λ (t : Track). IsLine t c.loop-added.course.legs) c.loop-added.invariant.lengthening.track stands in
    let back = one_back c.args.line.track c.args.locks.now c.args.group.now c.args.report.now c.loop-added.course.legs c.lengthen_back.new.self.legs c.known.ensures.sound c.requires.locks is_line c.loop-added.invariant.told more in
    let before : c.length-before.result ≡ line_length c.args.line.track c.loop-added.course.legs =
    c.length-before.ensures.length ∙ ap (λ (l : LineOnTrack). line_length l.track l.legs) c.line-shorter.ensures.line
    ∙ ap (λ (t : Track). line_length t c.loop-added.course.legs) c.loop-added.invariant.lengthening.track in
    let longer : c.length.result ≡ line_length c.args.line.track c.lengthen_back.new.self.legs =
    c.length.ensures.length ∙ ap (λ (l : LineOnTrack). line_length l.track l.legs) c.line-longer.ensures.line
    ∙ ap (λ (t : Track). line_length t c.lengthen_back.new.self.legs) (c.in_ok-lengthen_back.ensures.track ∙ c.loop-added.invariant.lengthening.track) in
    ap (λ (l : LineOnTrack). has_leg l.legs (leg_told c.args.group.now c.args.report.now)) c.into_line.ensures ∙ back.told

pub loop-added-preserved : goal.loop-added-preserved
loop-added-preserved c =
    let more = flag-some c.in_ok-lengthen_back.field-0 c.lengthen_back.new.self.legs (longer_back c.args.locks.now c.loop-added.course.legs) c.in_ok-lengthen_back.ensures.longer c.if-not-branch.false in
    let stands : IsLine c.loop-added.course.track c.loop-added.course.legs = subst (λ (l : LineOnTrack). IsLine l.track l.legs) c.line-shorter.ensures.line c.known-in-loop-added.ensures.line in
    let is_line : IsLine c.args.line.track c.loop-added.course.legs = subst (λ (t : Track). IsLine t c.loop-added.course.legs) c.loop-added.invariant.lengthening.track stands in
    let back = one_back c.args.line.track c.args.locks.now c.args.group.now c.args.report.now c.loop-added.course.legs c.lengthen_back.new.self.legs c.known.ensures.sound c.requires.locks is_line c.loop-added.invariant.told more in
    let before : c.length-before.result ≡ line_length c.args.line.track c.loop-added.course.legs =
    c.length-before.ensures.length ∙ ap (λ (l : LineOnTrack). line_length l.track l.legs) c.line-shorter.ensures.line
    ∙ ap (λ (t : Track). line_length t c.loop-added.course.legs) c.loop-added.invariant.lengthening.track in
    let longer : c.length.result ≡ line_length c.args.line.track c.lengthen_back.new.self.legs =
    c.length.ensures.length ∙ ap (λ (l : LineOnTrack). line_length l.track l.legs) c.line-longer.ensures.line
    ∙ ap (λ (t : Track). line_length t c.lengthen_back.new.self.legs) (c.in_ok-lengthen_back.ensures.track ∙ c.loop-added.invariant.lengthening.track) in
    let was = c.loop-added.invariant.origin_is in
    let within = c.loop-added.invariant.within in
    let now : c.loop-added.origin + (c.length.result - c.length-before.result) ≡ origin_on c.args.line.track c.args.group.now c.args.report.now c.lengthen_back.new.self.legs =
    (let moved = back.origin in omega arith) in
    record {
      lengthening = lengthening-more (longer_back c.args.locks.now) (has_rear c.args.line.track c.args.group.now c.args.report.now) c.args.line c.section_count-sections.result c.loop-added._added c.loop-added.course c.lengthen_back.new.self c.loop-added.invariant.lengthening c.loop-added-test.true more
          (ap (λ o. nat_le (c.args.report.now.over + c.args.report.now.length) (o + c.args.report.now.distance)) (sym now) ∙ sym c.has_rear_from-in-loop-added.ensures ∙ c.if-has_rear_from-2.false) c.in_ok-lengthen_back.ensures.track;
      told = back.told;
      origin_is = now;
      within = let much = back.more in omega arith;
    }

pub returns-clause-line : goal.returns-clause-line
unfolding rear_step
returns-clause-line c =
    lengthening-out (longer_back c.args.locks.now) (has_rear c.args.line.track c.args.group.now c.args.report.now) c.args.line c.section_count-sections.result Unplaced c.loop-added._added c.loop-added.course c.loop-added.invariant.lengthening c.loop-added-test.false
