use Rattle.std.proofs.Common.{◌≡◌, ◌-◌, true, false, None, sym, ◌∙◌}
use Rattle.rbc_model.specs.Locks.{longer_back}
use Rattle.rbc_model.specs.Placing.{has_rear}
use Rattle.rbc_extent.proofs.CoveringLemmas.{flag-none, flag-some}
use Rattle.rbc_extent.proofs.LengthenedLemmas.{rest-passed, rest-stuck}
use Rattle.rbc_extent.proofs.JudgeLemmas.{back-longer, back-more, back-test}
use Rattle.rbc_extent.proofs.judge.has_rear.Goals as goal

pub returns-then-has_rear_from-clause-rear : goal.returns-then-has_rear_from-clause-rear
returns-then-has_rear_from-clause-rear c =
    let start = c.args.walk.now in
    let l = c.loop-added in
    let has : has_rear start.line.track c.args.group.now c.args.report.now l.walk.line.legs ≡ true =
    sym (back-test c.args.group.now c.args.report.now start c.args.beyond c.section_count-added-end.result l._added c.length.result l.walk c.has_rear_from.result l.invariant c.length.ensures.length c.has_rear_from.ensures) ∙ c.if-has_rear_from.true in
    rest-passed (longer_back start.locks) (has_rear start.line.track c.args.group.now c.args.report.now) (c.section_count-added-end.result - l._added) l.walk.line.legs has ∙ l.invariant.rest

pub returns-then-not-lengthen_back-clause-rear : goal.returns-then-not-lengthen_back-clause-rear
returns-then-not-lengthen_back-clause-rear c =
    let start = c.args.walk.now in
    let l = c.loop-added in
    let lacks : has_rear start.line.track c.args.group.now c.args.report.now l.walk.line.legs ≡ false =
    sym (back-test c.args.group.now c.args.report.now start c.args.beyond c.section_count-added-end.result l._added c.length.result l.walk c.has_rear_from.result l.invariant c.length.ensures.length c.has_rear_from.ensures) ∙ c.if-has_rear_from.false in
    let stuck = flag-none c.lengthen_back.result c.lengthen_back.new.self.line.legs (longer_back l.walk.locks l.walk.line.legs) c.lengthen_back.ensures.longer c.if-not-lengthen_back.true in
    rest-stuck (longer_back start.locks) (has_rear start.line.track c.args.group.now c.args.report.now) c.section_count-added-end.result l._added l.walk.line.legs c.loop-added-test.true lacks
    (back-longer c.args.group.now c.args.report.now start c.args.beyond c.section_count-added-end.result l._added l.walk None l.invariant stuck) ∙ l.invariant.rest

pub loop-added-preserved : goal.loop-added-preserved
loop-added-preserved c =
    let start = c.args.walk.now in
    let l = c.loop-added in
    let lacks : has_rear start.line.track c.args.group.now c.args.report.now l.walk.line.legs ≡ false =
    sym (back-test c.args.group.now c.args.report.now start c.args.beyond c.section_count-added-end.result l._added c.length.result l.walk c.has_rear_from.result l.invariant c.length.ensures.length c.has_rear_from.ensures) ∙ c.if-has_rear_from.false in
    let more = flag-some c.lengthen_back.result c.lengthen_back.new.self.line.legs (longer_back l.walk.locks l.walk.line.legs) c.lengthen_back.ensures.longer c.if-not-lengthen_back.false in
    back-more c.args.group.now c.args.report.now start c.args.beyond c.section_count-added-end.result l._added l.walk c.lengthen_back.new.self c.known.ensures.sound c.known.ensures.locks l.invariant c.loop-added-test.true lacks
    c.known-in-loop-added.ensures.line c.lengthen_back.ensures.way more
