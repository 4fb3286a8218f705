use Rattle.std.proofs.Common.{◌∙◌, ap, sym, subst}
use Rattle.rbc_journal.specs.Journal.{IsTold}
use Rattle.rbc_model.specs.SessionText.{parse_session}
use Rattle.rbc_model.proofs.SaidLineLemmas.{said_line_read}
use Rattle.rbc_words.specs.SessionLines.{request_view}
use Rattle.rbc_journaled.proofs.TreatingLemmas.{said_is_told}
use Rattle.rbc_journaled.proofs.journaled_record.JournaledRecord.make_room.Goals as goal

pub returns-in-Ok-clause-line : goal.returns-in-Ok-clause-line
returns-in-Ok-clause-line g c = subst IsTold (sym c.in_ok-text.ensures) (said_is_told (request_view c.args.request.now) c.requires.sayable)

pub returns-in-Ok-clause-says : goal.returns-in-Ok-clause-says
returns-in-Ok-clause-says g c = ap parse_session c.in_ok-text.ensures ∙ said_line_read (request_view c.args.request.now) c.requires.sayable
