use Rattle.std.proofs.Common.{arith, ◌∙◌}
use Rattle.rbc_page.specs.Metrics.{with_all_refused}
use Rattle.rbc_page.proofs.NumberLemmas.{all_told, one_told}
use Rattle.rbc_page.proofs.numbers.put_all_refused.Goals as goal

pub loop-reason-preserved : goal.loop-reason-preserved
loop-reason-preserved c =
    one_told c.loop-reason.text.items c.put_refused.new.text.items c.args.refused.now c.loop-reason.reason-index _
    (omega (arith, c.loop-reason-test.true)) c.in_ok-put_refused.ensures
    ∙ c.loop-reason.invariant

pub returns : goal.returns
returns c =
    all_told c.loop-reason.text.items (with_all_refused c.args.text.now.items c.args.refused.now) c.args.refused.now c.loop-reason.reason-index
    (omega (arith, c.loop-reason-test.false)) c.loop-reason.invariant
