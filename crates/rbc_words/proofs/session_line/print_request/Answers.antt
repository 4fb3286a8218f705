use Rattle.rbc_model.proofs.SaidLineLemmas.{said_line_read}
use Rattle.rbc_words.specs.SessionLines.{request_view}
use Rattle.rbc_words.proofs.session_line.print_request.Goals as goal

pub returns-clause-text : goal.returns-clause-text
returns-clause-text g c = c.outcome.ensures.printed _ _ c.requires c.emit_request.ensures

pub returns-clause-read_back : goal.returns-clause-read_back
returns-clause-read_back g c = said_line_read (request_view c.args.request.now)
