use Rattle.std.proofs.Common.{ap, sym}
use Rattle.rbc_streams.proofs.EmittingLemmas.{emits_then, emits_as, emits_nothing}
use Rattle.rbc_journal_report.specs.Telling.{text_of}
use Rattle.rbc_journal_report.proofs.printing.emit_text.Goals as goal

pub loop-line-preserved : goal.loop-line-preserved
loop-line-preserved g c =
    let next = ap text_of c.in-Some.ensures.told in
    λ end rest. c.loop-line.invariant end (emits_as (sym next) (emits_then c.emit_one.ensures rest))

pub returns : goal.returns
returns g c = c.loop-line.invariant _ (emits_as (sym (ap text_of c.in_default.ensures.none)) (emits_nothing _))
