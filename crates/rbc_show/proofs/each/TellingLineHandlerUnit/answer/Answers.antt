use Rattle.std.proofs.Common.{◌||◌, inl, refl, ap, ◌∙◌, Err}
use Rattle.rbc_sessions.specs.Records.{begin_of}
use Rattle.rbc_show.specs.declared.each.Telling.{Telling}
use Rattle.rbc_show.specs.Showing.{told_text}
use Rattle.rbc_show.proofs.TellingLemmas.{line_told}
use Rattle.rbc_show.proofs.each.TellingLineHandlerUnit.answer.Goals as goal

pub returns-in-Err-Memory-clause-reply : goal.returns-in-Err-Memory-clause-reply
returns-in-Err-Memory-clause-reply g c =
    let before = c.args.self.now in
    let r = c.in-Err-Memory.ensures.told in (
      told_text before.number (begin_of before.history) before.history.entries c.args.line.now r.0 r.1,
      (c.requires.ready, inl refl),
      record { text = r.5; failed = refl },
    )

pub returns-in-Err-Write-clause-reply : goal.returns-in-Err-Write-clause-reply
returns-in-Err-Write-clause-reply g c =
    let before = c.args.self.now in
    let r = c.in-Err-Write.ensures.told in
    let text = told_text before.number (begin_of before.history) before.history.entries c.args.line.now r.0 r.1 in
    let after : Telling = record { history = c.tell_line.new.history; number = c.saturating_add-self.result; lost = before.lost } in (
      text,
      line_told before after c.args.line.now text r.0 r.1 c.requires.ready refl r.2 r.3 r.4 c.saturating_add-self.ensures refl,
      record { text = r.5; failed = ap (λ l. l || g.W.Sink.failed c.tell_line.new.writer) c.requires.ready ∙ c.in-Err-Write.ensures.write (ap (λ e. Err e) c.in-Err-Write.field-0-is) },
    )
