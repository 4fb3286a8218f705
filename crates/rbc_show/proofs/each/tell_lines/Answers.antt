use Rattle.std.proofs.Common.{sym, ◌∙◌}
use Rattle.rbc_show.proofs.EndLemmas.{write_failed, no_read, still_going, memory_read}
use Rattle.rbc_show.proofs.each.tell_lines.Goals as goal

pub returns-then-has_lost-clause-read : goal.returns-then-has_lost-clause-read
returns-then-has_lost-clause-read g c = (
  λ e. absurd (memory_read e),
  λ fails. absurd
      (no_read c.serve_lines-ended.new.handler.lost _ c.serve_lines-ended.result c.serve_lines-ended.ensures.write _ c.serve_lines-ended.ensures.read (sym c.has_lost.ensures ∙ c.if-has_lost.true) fails),
)

pub returns-clause-write : goal.returns-clause-write
returns-clause-write g c = λ e.
    write_failed c.serve_lines-ended.new.handler.lost _ c.serve_lines-ended.result c.serve_lines-ended.ensures.write (sym c.has_lost.ensures ∙ c.if-has_lost.false) e

pub returns-clause-going : goal.returns-clause-going
returns-clause-going g c =
    still_going c.serve_lines-ended.new.handler.lost _ c.serve_lines-ended.result c.serve_lines-ended.ensures.write (sym c.has_lost.ensures ∙ c.if-has_lost.false)
