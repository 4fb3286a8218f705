use Rattle.std.proofs.Common.{◌≡◌}
use Rattle.rbc_journal.specs.Settled.{staged, IsSettled}
use Rattle.rbc_group_commit.proofs.page.make_room.Given as goal

abbrev pub invariant-loop : goal.invariant-loop
invariant-loop g l =
    (goal.iterator-loop g).can_next l.iterator' × (goal.iterator-loop g).is_finite l.iterator'
    × IsSettled g.D.Device.seen g.D.Device.may_leave l.journal × (l.journal.device ≡ l.initial.journal.device) × (staged l.journal ≡ staged l.initial.journal)
