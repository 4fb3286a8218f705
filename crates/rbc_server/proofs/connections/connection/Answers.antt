use Rattle.std.proofs.Common.{refl}
use Rattle.std.proofs.lemmas.Bool.{both_ways, or_right}
use Rattle.rbc_server.proofs.ConnectionLemmas.{none_begun, talked}
use Rattle.rbc_server.proofs.connections.connection.Goals as goal

pub returns-in-Err-clause-served : goal.returns-in-Err-clause-served
returns-in-Err-clause-served g c = none_begun g.K.Keeper.kept (g.C.Client.coming c.args.client) c.args.sitting (g.C.Client.parting c.in-Err.gone) c.in-Err.ensures.memory

pub returns-in-Err-clause-failed : goal.returns-in-Err-clause-failed
returns-in-Err-clause-failed g c = λ broken. absurd (both_ways _ refl broken)

pub returns-clause-served : goal.returns-clause-served
returns-clause-served g c =
    let is = c.session-sitting.ensures.session in
    talked g.K.Keeper.kept (g.C.Client.coming c.args.client) c.args.sitting c.session-sitting.result.sitting (g.C.Client.parting c.let_go-gone.result) _ _ _ _ _ _ _ _ _ is.0 c.in-Ok.ensures.says c.in-Ok.ensures.told c.let_go-gone.ensures is.1 (is.2, is.3) (c.session-sitting.ensures.answers is.0)
    c.session-sitting.ensures.stays c.session-sitting.ensures.end c.session-sitting.ensures.ended c.session-sitting.ensures.read c.session-sitting.ensures.write.0 (λ failed. c.session-sitting.ensures.write.1 (or_right c.session-sitting.result.sitting.has_failed (g.O.Sink.failed c.session-sitting.new.writer) failed))
    (λ e. absurd (c.session-sitting.ensures.begins e))
    (λ e. c.session-sitting.ensures.handed_on e c.in-Ok.ensures.handed_on)
