use Rattle.std.proofs.Common.{sym}
use Rattle.rbc_certifier.proofs.answers.answer_grades.Goals as goal

pub returns-in-Ok : goal.returns-in-Ok
returns-in-Ok g c =
    let request = c.args.request in
    let reply = c.emit_chosen.ensures in
    (reply.0, reply.1 request.runs.items request.end (sym c.in-Ok.ensures.track), reply.2)
