use Rattle.std.proofs.Common.{◌≡◌, ℕ, List, Err, ◌∙◌, subst, arith, rules}
use Rattle.std.specs.Prelude.{IfOk}
use Rattle.std.proofs.lemmas.List.{take_all}
use Rattle.rbc_journal.specs.Gates.{counted}
use Rattle.rbc_journal.specs.Reading.{reading}
use Rattle.rbc_journal.specs.declared.reading.ReadFault.TheVariants.{FirstFormat}
use Rattle.rbc_journal.specs.Journal.{told_of}
use Rattle.rbc_journal_report.specs.Copying.{Tells}
use Rattle.rbc_journal_report.proofs.TellLemmas.{first_tells}
use Rattle.rbc_journal_report.proofs.copying.renew.Goals as goal

pub returns-in-Err-FirstFormat-clause-renewed : goal.returns-in-Err-FirstFormat-clause-renewed
returns-in-Err-FirstFormat-clause-renewed g c =
    let first : reading c.args.bytes.now c.args.track.now ≡ Err FirstFormat = search rules in
    subst (λ (ls : List (List ℕ)). IfOk c.copy_lines.result (λ journal. Tells g.D.Device.seen g.D.Device.may_leave journal ls))
    (take_all c.count.result (told_of (counted c.args.bytes.now)) (omega (arith, c.count.ensures)) ∙ first_tells c.args.bytes.now c.args.track.now first)
    c.copy_lines.ensures.copied
