use Rattle.std.proofs.Common.{refl, subst}
use Rattle.std.proofs.lemmas.Result.{err_from_is_err_and}
use Rattle.std.specs.Io.KnownBytes.{Appends}
use Rattle.rbc_model.specs.Sessions.{WritesPart}
use Rattle.rbc_server.specs.Serving.{closed_line, IsClosed}
use Rattle.rbc_server.proofs.ServingLemmas.{write_told, unwritten_is_told, close_is_told}
use Rattle.rbc_server.proofs.serving.close_desk.Goals as goal

pub returns-in_err-log-clause-fault : goal.returns-in_err-log-clause-fault
returns-in_err-log-clause-fault g c =
    let fault = err_from_is_err_and c.from_residual.result c.from_residual.ensures.1 in
    let written = g.W.Sink.written c.args.writer.now in
    close_is_told c.from_residual.result fault.0 fault.1 g.L.DeskName.opened g.L.Ledger.parts c.args.seats.items written written c.in_err-log.field-0.0 fault.2 c.in_err-log.ensures.unmatched refl

pub returns-in_err-print_closed-clause-write : goal.returns-in_err-print_closed-clause-write
returns-in_err-print_closed-clause-write g c =
    let fault = err_from_is_err_and c.from_residual-in_err-print_closed.result c.from_residual-in_err-print_closed.ensures.1 in
    let printed = c.in_err-print_closed.ensures.text in
    write_told c.from_residual-in_err-print_closed.result fault.0 fault.1 (g.W.Sink.failed c.print_closed.new.writer) fault.2 printed.failed

pub returns-in_err-print_closed-clause-fault : goal.returns-in_err-print_closed-clause-fault
returns-in_err-print_closed-clause-fault g c =
    let fault = err_from_is_err_and c.from_residual-in_err-print_closed.result c.from_residual-in_err-print_closed.ensures.1 in
    let printed = c.in_err-print_closed.ensures.text in
    let closing : IsClosed g.L.DeskName.opened c.args.seats.items c.in_ok-log.log = record { matches = c.in_ok-log.ensures.matches; goes_on = c.in_ok-log.ensures.told } in
    let old = g.W.Sink.written c.args.writer.now in
    let new = g.W.Sink.written c.print_closed.new.writer in
    unwritten_is_told c.from_residual-in_err-print_closed.result fault.0 fault.1 g.L.DeskName.opened g.L.Ledger.parts c.args.seats.items old new c.in_ok-log.log fault.2 closing
    (subst (λ n. WritesPart old new (closed_line n)) c.version.ensures.count printed.text)

pub returns-clause-closing : goal.returns-clause-closing
returns-clause-closing g c = record { matches = c.in_ok-log.ensures.matches; goes_on = c.in_ok-log.ensures.told }

pub returns-clause-text : goal.returns-clause-text
returns-clause-text g c =
    let closed = c.in_ok-print_closed.ensures.text in
    subst (λ n. Appends (g.W.Sink.written c.args.writer.now) (g.W.Sink.written c.print_closed.new.writer) (closed_line n)) c.version.ensures.count closed.text
