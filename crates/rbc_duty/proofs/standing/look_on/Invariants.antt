use Rattle.rbc_server.specs.Looking.{LooksOn}
use Rattle.rbc_duty.proofs.standing.look_on.Given as goal

-- So far it has looked on.
abbrev pub invariant-loop : goal.invariant-loop
invariant-loop g l =
    (goal.iterator-loop g).can_next l.iterator' × (goal.iterator-loop g).is_finite l.iterator'
    × LooksOn (g.B.Onlooker.seat l.initial.onlooker) (g.B.Onlooker.seat l.onlooker)
