use Rattle.std.proofs.Common.{◌∙◌, sym}
use Rattle.rbc_model.proofs.SaidLineLemmas.{read_is_sayable}
use Rattle.rbc_replies.specs.SessionLines.{request_view}
use Rattle.rbc_sessions.proofs.KeepingLemmas.{line_asks, line_is_bad}
use Rattle.rbc_sessions.proofs.command.said_in.Goals as goal

pub resolved-requires : goal.resolved-requires
resolved-requires c = record { sayable = read_is_sayable c.args.line.now (request_view c.in-Ok.request) (sym c.in-Ok.ensures) }

pub returns-in-Ok-clause-command : goal.returns-in-Ok-clause-command
returns-in-Ok-clause-command c =
    c.resolved.ensures.command ∙ sym (line_asks c.args.track.now c.args.line.now (request_view c.in-Ok.request) (sym c.in-Ok.ensures))

pub returns-in-Err-clause-command : goal.returns-in-Err-clause-command
returns-in-Err-clause-command c = line_is_bad c.args.track.now c.args.line.now c.in-Err.fault (sym c.in-Err.ensures)
