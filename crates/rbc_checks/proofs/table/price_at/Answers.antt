use Rattle.std.proofs.Common.{sym, ◌∙◌, ap, get_or, ◌-◌}
use Rattle.std.proofs.lemmas.Bool.{ltb-true}
use Rattle.rbc_checks.proofs.TableLemmas.{price_in}
use Rattle.rbc_checks.proofs.table.price_at.Goals as goal

pub returns-in-Some : goal.returns-in-Some
returns-in-Some c =
    let lookup = rw c.deref.ensures.value at c.in-Some.ensures.lookup in
    c.price_in.ensures ∙ ap (λ items. get_or items (c.args.column - 1) 0) c.deref-in-Some.ensures.value
    ∙ price_in c.args.rows.now.items c.args.steps c.args.column c.in-Some.row.now c.if-steps-eq0.false c.if-column-eq0.false
    (ltb-true _ _ (sym lookup.0)) lookup.1
