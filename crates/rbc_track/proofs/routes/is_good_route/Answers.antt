use Rattle.std.proofs.Common.{arith}
use Rattle.std.proofs.lemmas.Bool.Decides.{nat_tests}
use Rattle.rbc_track.proofs.RouteLemmas.{entered}
use Rattle.rbc_track.proofs.routes.is_good_route.Goals as goal

pub returns-in-Some : goal.returns-in-Some
returns-in-Some c = λ track name links many.
    entered track name c.args.after c.in-Some.leg c.args.legs.now c.args.sections c.are_of.result c.sections_differ.result c.are_linked.result c.is_good_entry.result many c.in-Some.is
    (grind (arith, nat_tests)) (grind (arith, nat_tests)) c.are_of.ensures (grind arith) c.sections_differ.ensures (grind arith) (c.are_linked.ensures track links) (grind arith)
    (c.is_good_entry.ensures track links)
