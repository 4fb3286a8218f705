use Rattle.std.proofs.Common.{arith, ◌-◌}
use Rattle.std.proofs.lemmas.Option.{slice_get-get_or}
use Rattle.rbc_table_laws.proofs.PriceRowLemmas.{price_is}
use Rattle.rbc_costs.proofs.table.price_at.Goals as goal

pub returns : goal.returns
returns c =
    let row = c.index-rows-steps.result in
    let wide = c.requires.wide in
    let room = wide.room in
    let some = c.if-steps-eq0.false in
    let width = wide.wide (c.args.steps - 1) _ (slice_get-get_or c.args.rows.now (c.args.steps - 1) row (omega arith)) in
    let items = rw (← c.index-rows-steps.is) at width in
    price_is c.args.rows.now c.args.steps c.args.column row c.index.result.now c.if-steps-eq0.false c.if-column-eq0.false c.requires.inside c.index-rows-steps.is c.index.ensures (omega arith)
