use Rattle.std.proofs.Common.{[], refl, sym, subst, append-nil}
use Rattle.std.proofs.KnownBytes.{Consumes-nil}
use Rattle.rbc_streams.specs.LineReading.{Steps}
use Rattle.rbc_streams.proofs.session.next_line.Goals as goal

pub returns-in-Some-clause-next : goal.returns-in-Some-clause-next
returns-in-Some-clause-next g c = (
  [],
  Consumes-nil (g.R.Source.left c.args.reader.now),
  λ ended. refl,
  subst (λ bytes. Steps bytes c.step.new.self c.in-Some.step) (sym (append-nil c.args.lines.now.pending)) c.in-Some.ensures.some,
)
