use Rattle.std.proofs.Common.{refl}
use Rattle.std.proofs.lemmas.Bool.{both_ways}
use Rattle.rbc_duty.proofs.VisitLemmas.{begins, goes_on}
use Rattle.rbc_duty.proofs.duty.serve_in_turn.Goals as goal

pub loop-served-init : goal.loop-served-init
loop-served-init g c =
    (begins g.K.Keeper.kept (g.P.Clients.coming c.args.post.port) c.args.post.sitting, (λ broken. absurd (both_ways _ c.args.post.whole broken)), refl)

pub loop-served-preserved : goal.loop-served-preserved
loop-served-preserved g c =
    let inv = c.loop-served.invariant in
    let visit = c.connection-left.ensures in (
      goes_on g.K.Keeper.kept (g.P.Clients.coming c.args.post.port) (g.P.Clients.coming c.loop-served.port) (g.P.Clients.coming c.accept.new.self)
          c.args.post.sitting c.loop-served.sitting c.connection-left.result.sitting inv.0 (g.C.Client.coming c.in-Ok.client) c.in-Ok.ensures.next
          c.if-sitting.false (g.C.Client.parting c.connection-left.result.gone) visit.served,
      visit.failed,
      inv.2,
    )
