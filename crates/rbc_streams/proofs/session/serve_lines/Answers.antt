use Rattle.std.proofs.lemmas.Result.{err_from_is_err_and}
use Rattle.rbc_streams.proofs.UnderWayLemmas.{over_before}
use Rattle.rbc_streams.proofs.session.serve_lines.Goals as goal

pub returns-in_err-lines-clause-talk : goal.returns-in_err-lines-clause-talk
returns-in_err-lines-clause-talk g c =
    let fault = err_from_is_err_and c.from_residual.result c.from_residual.ensures.1 in
    let left = g.R.Source.left c.args.reader.now in
    let written = g.W.Sink.written c.args.writer.now in
    rw (fault.1, fault.2) (over_before g.A.LineHandler.longest g.A.LineHandler.answers (g.A.LineHandler.state c.args.handler.now) left written)
