use Rattle.std.proofs.Common.{ap, sym, ◌∙◌}
use Rattle.rbc_model.specs.CheckText.{rows_of}
use Rattle.rbc_checks.proofs.RowLemmas.{no_others, some_others, in_table, in_no_table}
use Rattle.rbc_checks.proofs.rows.Rows.table.Goals as goal

pub returns-then-is_empty : goal.returns-then-is_empty
returns-then-is_empty c =
    let rows = c.self.inside in
    in_table rows.table.items rows.others.items c.self.invariant (no_others rows.others (sym c.is_empty.ensures ∙ c.if-is_empty.true))
    ∙ ap (rows_of 1) c.self.view_is

pub returns-else-is_empty : goal.returns-else-is_empty
returns-else-is_empty c =
    let rows = c.self.inside in
    in_no_table rows.table.items rows.others.items c.self.invariant (some_others rows.others (sym c.is_empty.ensures ∙ c.if-is_empty.false))
    ∙ ap (rows_of 1) c.self.view_is
