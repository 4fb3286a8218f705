use Rattle.std.proofs.Common.{ap, sym, Result}
use Rattle.rbc_streams.proofs.EmittingLemmas.{emits_as, emits_nothing}
use Rattle.rbc_journal.specs.declared.reading.ReadFault.{ReadFault}
use Rattle.rbc_journal_report.specs.Telling.{Telling, text_of, told_lines}
use Rattle.rbc_journal_report.proofs.printing.emit_lines.Goals as goal

pub returns-in-Ok : goal.returns-in-Ok
returns-in-Ok g c = emits_as (sym (ap (λ (t : Result Telling ReadFault). text_of (told_lines t)) c.in-Ok.ensures.ok)) c.emit_text.ensures

pub returns-in_default : goal.returns-in_default
returns-in_default g c = emits_as (sym (ap (λ (t : Result Telling ReadFault). text_of (told_lines t)) c.in_default.ensures.err)) (emits_nothing _)
