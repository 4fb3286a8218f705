use Rattle.rbc_locks.proofs.NextTableLemmas.{next_table-row_behind, next_table-row_alone}
use Rattle.rbc_locks.proofs.locks.Locks.add_row.Goals as goal
use Rattle.rbc_locks.proofs.locks.Locks.add_row.Goals.{in-Some, in_default}

pub invariant_of-self : goal.invariant_of-self
invariant_of-self c = elim c.match-before.branch [
  | in-Some w ↦
      rw w.self-inside-is
      (next_table-row_behind c.args.route c.self.inside.rows.items c.args.self.now c.self.inside.next_legs w.set.new.self c.args.leg.now w.in-Some.leg_before c.index.result c.args.before
      c.self.invariant
      c.self.view_is
      c.requires
      c.index.ensures
      w.in-Some.is
      w.set.ensures)
  | in_default w ↦
      rw w.self-inside-is
      (next_table-row_alone c.args.route c.self.inside.rows.items c.args.self.now c.self.inside.next_legs c.args.leg.now c.index.result c.args.before c.self.invariant c.self.view_is c.requires c.index.ensures w.in_default.is)
]
