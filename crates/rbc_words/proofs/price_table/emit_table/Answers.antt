use Rattle.std.proofs.Common.{sym, ap, ◌+◌}
use Rattle.rbc_streams.proofs.EmittingLemmas.{emits_then, emits_as, emits_nothing}
use Rattle.rbc_words.proofs.SpacedLemmas.{prices-next, prices-end}
use Rattle.rbc_words.proofs.price_table.emit_table.Goals as goal

pub loop-row-preserved : goal.loop-row-preserved
loop-row-preserved g c =
    let loop = c.loop-row in
    let item = c.row-item in
    let next = prices-next c.args.rows.now loop.row-index (loop.number + 1) item.result _ c.loop-row-test.true item.is c.as_slice.ensures.value in
    record {
      number = ap (λ n. n + 1) loop.invariant.number;
      whole = λ end rest. loop.invariant.whole end (emits_as (sym next) (emits_then c.emit_row.ensures rest));
    }

pub returns : goal.returns
returns g c =
    let loop = c.loop-row in
    let none_left = prices-end c.args.rows.now loop.row-index (loop.number + 1) c.loop-row-test.false in
    loop.invariant.whole _ (emits_as (sym none_left) (emits_nothing _))
