use Rattle.std.proofs.Common.{rules, arith, ◌≡◌, ◌<◌, length, ap, ◌∙◌, is_some}
use Rattle.rbc_model.specs.Locks.{row}
use Rattle.rbc_desk.proofs.StateLemmas.{locked_more}
use Rattle.rbc_desk.proofs.state.locked_count.Goals as goal
use Rattle.rbc_desk.proofs.state.locked_count.Goals.{then-is_some, else-is_some}

pub loop-index-preserved : goal.loop-index-preserved
loop-index-preserved c =
    let loop = c.loop-index in
    let locks = c.args.scene.now.scene.locks in
    let inside : loop.index < length locks = search rules in
    let is : c.is_some.result ≡ is_some (row locks loop.index) = c.is_some.ensures ∙ ap is_some (c.row.ensures ∙ (λ i. row (c.locks-locks.ensures.locks i) (c.new.ensures i))) in
    let more = locked_more locks loop.index loop.locked inside loop.invariant.0 c.is_some.result is in
    elim c.if-is_some.branch [
      | then-is_some w ↦ (let one = rw w.if-is_some.true at more in (omega (arith, w.locked-is, one), omega (arith, w.locked-is, loop.invariant.1)))
      | else-is_some w ↦ (let none = rw w.if-is_some.false at more in (omega (arith, w.locked-is, none), omega (arith, w.locked-is, loop.invariant.1)))
    ]
