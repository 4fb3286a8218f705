use Rattle.std.proofs.Common.{◌≡◌, true, length, ap, sym, ◌∙◌}
use Rattle.rbc_model.specs.Lines.{has_leg}
use Rattle.rbc_model.specs.Locks.{longer_ahead}
use Rattle.rbc_extent.proofs.CoveringLemmas.{flag-some, lengthening-more, one_ahead, has_leg-longer}
use Rattle.rbc_extent.proofs.LengthenedLemmas.{way-found}
use Rattle.rbc_extent.proofs.JudgeLemmas.{same_way-on}
use Rattle.rbc_extent.proofs.judge.goes_to.Goals as goal

pub returns-then-is_same_leg-clause-there : goal.returns-then-is_same_leg-clause-there
returns-then-is_same_leg-clause-there c =
    let start = c.args.walk.now in
    let l = c.loop-added in
    let more = flag-some c.lengthen_ahead.result c.lengthen_ahead.new.self.line.legs (longer_ahead start.locks l.walk.line.legs) (c.lengthen_ahead.ensures.longer ∙ ap (λ k. longer_ahead k l.walk.line.legs) l.invariant.way.locks) c.if-not-lengthen_ahead.false in
    let one = one_ahead start.locks l.walk.line.legs c.lengthen_ahead.new.self.line.legs more in
    let has : has_leg c.lengthen_ahead.new.self.line.legs c.args.leg ≡ true =
    has_leg-longer l.walk.line.legs c.lengthen_ahead.new.self.line.legs c.args.leg c.last-last.result one c.last-last.ensures.last l.invariant.lengthening.under_way.not_yet ∙ sym c.is_same_leg.ensures ∙ c.if-is_same_leg.true in
    way-found (longer_ahead start.locks) (λ line. has_leg line c.args.leg) c.section_count-added-end.result start.line.legs (length start.line.track.sections) l._added l.walk.line.legs c.lengthen_ahead.new.self.line.legs l.invariant.lengthening.under_way c.section_count-added-end.ensures.count c.loop-added-test.true more has

pub loop-added-preserved : goal.loop-added-preserved
loop-added-preserved c =
    let start = c.args.walk.now in
    let l = c.loop-added in
    let more = flag-some c.lengthen_ahead.result c.lengthen_ahead.new.self.line.legs (longer_ahead start.locks l.walk.line.legs) (c.lengthen_ahead.ensures.longer ∙ ap (λ k. longer_ahead k l.walk.line.legs) l.invariant.way.locks) c.if-not-lengthen_ahead.false in
    let one = one_ahead start.locks l.walk.line.legs c.lengthen_ahead.new.self.line.legs more in
    record {
      lengthening = lengthening-more (longer_ahead start.locks) (λ line. has_leg line c.args.leg) start.line c.section_count-added-end.result l._added l.walk.line c.lengthen_ahead.new.self.line l.invariant.lengthening c.loop-added-test.true more
          (has_leg-longer l.walk.line.legs c.lengthen_ahead.new.self.line.legs c.args.leg c.last-last.result one c.last-last.ensures.last l.invariant.lengthening.under_way.not_yet ∙ sym c.is_same_leg.ensures ∙ c.if-is_same_leg.false)
          c.lengthen_ahead.ensures.way.track;
      way = same_way-on start l.walk c.lengthen_ahead.new.self l.invariant.way c.lengthen_ahead.ensures.way;
      behind = c.lengthen_ahead.ensures.behind ∙ l.invariant.behind;
    }
