use Rattle.std.proofs.Common.{◌≡◌, ◌∙◌, ap, sym, Some}
use Rattle.rbc_model.specs.Locks.{Locks, row}
use Rattle.rbc_locks.proofs.NextTableLemmas.{before_of_table, next_table-freed, next_table-freed_none}
use Rattle.rbc_locks.proofs.locks.Locks.free.Goals as goal

pub set-requires : goal.set-requires
set-requires c =
    let there : row c.self.inside.rows.items c.args.section ≡ Some c.in-Some.lock = ap (λ (locks : Locks). row locks c.args.section) c.self.view_is ∙ sym c.in-Some.ensures in
    before_of_table c.self.inside.rows.items c.self.inside.next_legs c.args.section c.in-Some.lock c.in-Some-before.before c.self.invariant there c.in-Some-before.is

pub invariant_of-self : goal.invariant_of-self
invariant_of-self c =
    let there : row c.self.inside.rows.items c.args.section ≡ Some c.in-Some.lock = ap (λ (locks : Locks). row locks c.args.section) c.self.view_is ∙ sym c.in-Some.ensures in
    rw (c.index.ensures, c.set.ensures)
    (next_table-freed c.self.inside.rows.items c.self.inside.next_legs c.args.section c.in-Some.lock c.in-Some-before.before c.self.invariant there c.in-Some-before.is)

pub invariant_of-self-in_default-before : goal.invariant_of-self-in_default-before
invariant_of-self-in_default-before c =
    let there : row c.self.inside.rows.items c.args.section ≡ Some c.in-Some.lock = ap (λ (locks : Locks). row locks c.args.section) c.self.view_is ∙ sym c.in-Some.ensures in
    rw c.index.ensures
    (next_table-freed_none c.self.inside.rows.items c.self.inside.next_legs c.args.section c.in-Some.lock c.self.invariant there c.in_default-before.is)
