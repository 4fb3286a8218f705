use Rattle.std.proofs.Common.{◌+◌, ◌-◌, sym, ◌∙◌}
use Rattle.rbc_model.specs.Locks.{longer_ahead}
use Rattle.rbc_extent.proofs.CoveringLemmas.{flag-some}
use Rattle.rbc_extent.proofs.JudgeLemmas.{on-more, on-test}
use Rattle.rbc_extent.proofs.judge.has_front.Goals as goal
use Rattle.std.proofs.lemmas.Bool.{lt-leb}

pub loop-added-preserved : goal.loop-added-preserved
loop-added-preserved c =
    let start = c.args.walk.now in
    let l = c.loop-added in
    let front = c.length.result - c.args.beyond + c.metres_ahead.result in
    let more = flag-some c.lengthen_ahead.result c.lengthen_ahead.new.self.line.legs (longer_ahead l.walk.locks l.walk.line.legs) c.lengthen_ahead.ensures.longer c.if-not-lengthen_ahead.false in
    let short = sym (on-test c.args.group.now c.args.report.now start front c.section_count-added-end.result l._added c.length-in-loop-added.result l.walk l.invariant c.length-in-loop-added.ensures.length) ∙ lt-leb front c.length-in-loop-added.result c.if-front-length.false in
    on-more c.args.group.now c.args.report.now start front c.section_count-added-end.result l._added l.walk c.lengthen_ahead.new.self l.invariant c.loop-added-test.true short c.lengthen_ahead.ensures.way more
