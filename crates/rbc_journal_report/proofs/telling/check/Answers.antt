use Rattle.std.proofs.Common.{◌≡◌, List, ℕ, Option, sym, ◌∙◌, ap}
use Rattle.std.specs.Option.{unwrap_or}
use Rattle.rbc_journal.specs.Reading.{reading}
use Rattle.rbc_journal_report.specs.Telling.{own_digest, no_digest, checked}
use Rattle.rbc_journal_report.proofs.telling.check.Goals as goal

pub returns-in-Ok : goal.returns-in-Ok
returns-in-Ok c =
    let own : c.unwrap_or-own.result ≡ own_digest c.args.bytes.now = c.unwrap_or-own.ensures ∙ ap (λ (o : Option (List ℕ)). unwrap_or o no_digest) c.named.ensures in
    let digest : c.unwrap_or.result ≡ unwrap_or c.args.given (own_digest c.args.bytes.now) = c.unwrap_or.ensures ∙ ap (λ (d : List ℕ). unwrap_or c.args.given d) own in
    sym (ap checked (ap (reading c.args.bytes.now) (sym digest) ∙ c.in-Ok.ensures.ok))

pub returns-in-Err : goal.returns-in-Err
returns-in-Err c =
    let own : c.unwrap_or-own.result ≡ own_digest c.args.bytes.now = c.unwrap_or-own.ensures ∙ ap (λ (o : Option (List ℕ)). unwrap_or o no_digest) c.named.ensures in
    let digest : c.unwrap_or.result ≡ unwrap_or c.args.given (own_digest c.args.bytes.now) = c.unwrap_or.ensures ∙ ap (λ (d : List ℕ). unwrap_or c.args.given d) own in
    sym (ap checked (ap (reading c.args.bytes.now) (sym digest) ∙ c.in-Err.ensures.err))
