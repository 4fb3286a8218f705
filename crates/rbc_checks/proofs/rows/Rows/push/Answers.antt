use Rattle.std.proofs.Common.{ap, sym, ◌∙◌, length, ◌+◌, ◌∷◌, ◌++◌, []}
use Rattle.rbc_checks.specs.Lines.{line_view}
use Rattle.rbc_checks.proofs.RowLemmas.{no_row_more, no_others, some_others, row_more}
use Rattle.rbc_checks.proofs.rows.Rows.push.Goals as goal
use Rattle.rbc_checks.proofs.rows.Rows.push.Goals.{in-Err-1, in-Ok-2}

pub invariant_of-self : goal.invariant_of-self
invariant_of-self c =
    let rows = c.self.inside in
    no_row_more (length rows.table.items + 1) rows.others.items c.args.line _ c.push.new.self.items c.push.ensures.items
    (some_others rows.others (sym c.is_empty.ensures ∙ c.if-not-is_empty.true)) c.self.invariant

pub returns-in-Ok : goal.returns-in-Ok
returns-in-Ok c ok =
    let rows = c.self.inside in
    let behind =
    row_more rows.table rows.others c.in-Ok.prices (line_view c.args.line) c.len.result _ c.push-in-Ok.new.self.items c.push-in-Ok.ensures.items
    (sym c.is_ok-in-Ok.ensures.value ∙ ok) (no_others rows.others (sym c.is_empty.ensures ∙ c.if-not-is_empty.false)) c.len.ensures c.in-Ok.ensures
    ∙ ap (λ lines. lines ++ line_view c.args.line ∷ []) c.self.view_is in
    elim c.match-push-3.branch [ in-Err-1 w ↦ w.self-is ∙ behind | in-Ok-2 w ↦ w.self-is ∙ behind ]
