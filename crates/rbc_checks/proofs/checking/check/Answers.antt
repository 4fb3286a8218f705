use Rattle.std.proofs.Common.{ap, not, Ok}
use Rattle.std.proofs.lemmas.Result.{err_from_is_err_and}
use Rattle.rbc_model.specs.declared.places.Format.TheVariants.{Far}
use Rattle.rbc_model.specs.CheckText.{Checking, IsChecked}
use Rattle.rbc_session_laws.proofs.AllReadLemmas.{of_all_read}
use Rattle.rbc_session_laws.proofs.CheckLemmas.{checks_are_answered}
use Rattle.rbc_checks.specs.Answered.{AnswersBlocks}
use Rattle.rbc_checks.specs.Verdicts.{said_text, is_bad}
use Rattle.rbc_checks.proofs.CheckingLemmas.{over, held}
use Rattle.rbc_checks.proofs.checking.check.Goals as goal

pub returns-in_err-flush-clause-checked : goal.returns-in_err-flush-clause-checked
returns-in_err-flush-clause-checked g c =
    let talk = c.in_ok-serve_lines.ensures.talk in
    let residual = c.from_residual-in_err-flush in
    let fault = err_from_is_err_and residual.result residual.ensures.1 in (
      talk.0,
      talk.1,
      rw (fault.1, fault.2)
          (held c.new-checker.result c.serve_lines.new.handler talk.0 (g.W.Sink.written c.args.writer.now) (g.W.Sink.written c.serve_lines.new.writer)
          c.new-checker.ensures talk.2 (said_text c.close.result) (is_bad c.close.result) c.close.ensures.said
          (g.W.Sink.written c.print_said.new.writer) (g.W.Sink.written c.flush.new.self) c.in_ok-print_said.ensures.text c.in_err-flush.ensures.bytes),
    )

pub returns-clause-checked : goal.returns-clause-checked
returns-clause-checked g c =
    let talk = c.in_ok-serve_lines.ensures.talk in (
      talk.0,
      talk.1,
      over c.new-checker.result c.serve_lines.new.handler talk.0 (g.W.Sink.written c.args.writer.now) (g.W.Sink.written c.serve_lines.new.writer)
          c.new-checker.ensures talk.2 (said_text c.close.result) (is_bad c.close.result) c.close.ensures.said
          (g.W.Sink.written c.print_said.new.writer) (g.W.Sink.written c.flush.new.self) c.in_ok-print_said.ensures.text c.in_ok-flush.ensures.bytes
          c.close.new.self c.close.ensures.closed (not c.checker-2.inside.refused) (ap (λ (s : Checking). not s.refused) c.checker-2.view_is),
    )

pub returns-clause-answers : goal.returns-clause-answers
returns-clause-answers g c =
    let checked = returns-clause-checked g c in
    of_all_read (IsChecked Far) AnswersBlocks (λ all input held text. checks_are_answered Far input held text all) _ _ _ _ (Ok (not c.checker-2.inside.refused))
    checked.0 c.in_ok-serve_lines.ensures.end checked.1 checked.2
