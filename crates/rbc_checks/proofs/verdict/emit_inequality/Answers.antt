use Rattle.std.proofs.Common.{sym}
use Rattle.rbc_streams.proofs.EmittingLemmas.{emits_then, emits_as}
use Rattle.rbc_checks.proofs.PrintedLemmas.{inequality-is}
use Rattle.rbc_checks.proofs.verdict.emit_inequality.Goals as goal

pub returns : goal.returns
returns g c =
    emits_as (sym (inequality-is c.args.row c.args.from c.args.to))
    (emits_then c.emit.ensures (emits_then c.emit_number.ensures (emits_then c.emit-2.ensures
    (rw (← c.from.ensures, ← c.from-2.ensures) (emits_then c.emit_number-2.ensures c.emit_last.ensures)))))
