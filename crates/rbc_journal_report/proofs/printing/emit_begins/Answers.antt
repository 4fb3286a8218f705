use Rattle.std.proofs.Common.{ap, sym}
use Rattle.rbc_streams.proofs.EmittingLemmas.{emits_as, emits_nothing}
use Rattle.rbc_journal_report.specs.Telling.{begins_text}
use Rattle.rbc_journal_report.proofs.printing.emit_begins.Goals as goal

pub returns-in-Some : goal.returns-in-Some
returns-in-Some g c = emits_as (sym (ap begins_text c.in-Some.ensures)) c.emit_line.ensures

pub returns-in_default : goal.returns-in_default
returns-in_default g c = emits_as (sym (ap begins_text c.in_default.ensures)) (emits_nothing _)
