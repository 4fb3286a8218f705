use Rattle.std.proofs.Common.{◌≡◌, List, ℕ, Option, Result, Err, refl, sym, subst, ◌∙◌, ap}
use Rattle.std.specs.Prelude.{IfErr}
use Rattle.rbc_journal.specs.Gates.{counted}
use Rattle.rbc_journal.specs.declared.reading.ReadFault.{ReadFault}
use Rattle.std.specs.Option.{unwrap_or}
use Rattle.rbc_journal_report.specs.Telling.{Telling, own_digest, no_digest, telling_by}
use Rattle.rbc_journal_report.proofs.TellLemmas.{tell_whole, tell_fault}
use Rattle.rbc_journal_report.proofs.telling.tell_beside.Goals as goal

pub returns-in-Ok-clause-ok : goal.returns-in-Ok-clause-ok
returns-in-Ok-clause-ok c =
    let own : c.unwrap_or-own.result ≡ own_digest c.args.bytes.now = c.unwrap_or-own.ensures ∙ ap (λ (o : Option (List ℕ)). unwrap_or o no_digest) c.named.ensures in
    let digest : c.unwrap_or.result ≡ unwrap_or c.args.given (own_digest c.args.bytes.now) = c.unwrap_or.ensures ∙ ap (λ (d : List ℕ). unwrap_or c.args.given d) own in
    tell_whole c.args.given c.args.bytes.now c.unwrap_or.result digest _ c.in-Ok.file.text.now c.state_of.result c.in-Ok.ensures.ok c.in-Ok.ensures.same c.state_of.ensures

pub returns-in-Ok-clause-text : goal.returns-in-Ok-clause-text
returns-in-Ok-clause-text c = c.in-Ok.ensures.whole.is_text

pub returns-in-Err-clause-err : goal.returns-in-Err-clause-err
returns-in-Err-clause-err c =
    let own : c.unwrap_or-own.result ≡ own_digest c.args.bytes.now = c.unwrap_or-own.ensures ∙ ap (λ (o : Option (List ℕ)). unwrap_or o no_digest) c.named.ensures in
    let digest : c.unwrap_or.result ≡ unwrap_or c.args.given (own_digest c.args.bytes.now) = c.unwrap_or.ensures ∙ ap (λ (d : List ℕ). unwrap_or c.args.given d) own in
    subst (λ (t : Result Telling ReadFault). IfErr c.tell_damaged.result (λ fault. t ≡ Err fault))
    (sym (tell_fault c.args.given c.args.bytes.now c.unwrap_or.result digest c.in-Err.fault (telling_by (counted c.args.bytes.now) (Err c.in-Err.fault)) c.in-Err.ensures.err refl))
    c.tell_damaged.ensures.err
