use Rattle.std.proofs.Common.{subst, sym}
use Rattle.rbc_model.specs.Words.{words_of}
use Rattle.rbc_checks.specs.Lines.{IsSaid, command_said}
use Rattle.rbc_checks.proofs.TextLemmas.{line_said, formed_line}
use Rattle.rbc_checks.proofs.lines.parse_check.Goals as goal

pub returns-then-is_in_form : goal.returns-then-is_in_form
returns-then-is_in_form c =
    let text = c.without_return-text.result.now in
    let begins = c.in-Some.ensures in
    let command = c.in-Some.command in
    let words = c.in-Some.words.now in
    let read = c.command_said-read.ensures in
    let formed = c.is_in_form.ensures (command_said command (words_of words)) read c.if-is_in_form.true in
    subst (λ t. IsSaid c.command_said-read.result (line_said t)) c.without_return-text.ensures
    (subst (λ said. IsSaid c.command_said-read.result said) (sym (formed_line text command words begins.0 begins.2 begins.1 formed)) read)
