use Rattle.std.proofs.Common.{◌≡◌}
use Rattle.rbc_snap.proofs.eye.enter.Given as goal

abbrev pub invariant-loop : goal.invariant-loop
invariant-loop g l = (goal.iterator-loop g).can_next l.iterator' × (goal.iterator-loop g).is_finite l.iterator' × (l.reader.place.me.0.client ≡ l.initial.reader.place.me.0.client)
