use Rattle.rbc_server.proofs.BringingLemmas.{one_brought}
use Rattle.rbc_server.proofs.bringing.bring.Goals as goal

pub loop-other-preserved : goal.loop-other-preserved
loop-other-preserved g c =
    let loop = c.loop-other in
    let item = c.other-item in
    one_brought c.args.others.now loop.other-index item.result c.args.seat.now loop.seat c.hear.new.self c.loop-other-test.true item.is loop.invariant c.hear.ensures.receipts c.hear.ensures.later
    c.hear.ensures.heard
