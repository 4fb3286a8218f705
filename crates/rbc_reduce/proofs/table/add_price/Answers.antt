use Rattle.std.proofs.Common.{◌++◌, ◌∷◌, [], ap, ◌∙◌, map}
use Rattle.rbc_costs.proofs.TotalLemmas.{row_is, map_more}
use Rattle.rbc_reduce.proofs.RowLemmas.{row_set, row_kept}
use Rattle.rbc_reduce.proofs.table.add_price.Goals as goal

pub returns-clause-added : goal.returns-clause-added
returns-clause-added g c =
    row_set g.N.Total.number c.args.rows.now.items c.args.row c.push.new.self c.requires
    ∙ ap (map g.N.Total.number) c.in_ok-push.ensures.items
    ∙ map_more g.N.Total.number _ c.args.price
    ∙ ap (λ row. row ++ g.N.Total.number c.args.price ∷ []) (row_is g.N.Total.number c.args.rows.now.items c.args.row _ c.index_mut.ensures.value c.requires)

pub returns-clause-others : goal.returns-clause-others
returns-clause-others g c = λ other different. row_kept g.N.Total.number c.args.rows.now.items c.args.row other c.push.new.self different
