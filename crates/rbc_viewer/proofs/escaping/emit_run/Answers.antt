use Rattle.std.proofs.Common.{ℕ, ◌<◌, length, get_or, refl, sym, arith}
use Rattle.rbc_streams.proofs.EmittingLemmas.{emits_then, emits_as}
use Rattle.rbc_viewer.proofs.EscapeLemmas.{one_behind}
use Rattle.rbc_viewer.proofs.escaping.emit_run.Goals as goal

pub returns-clause-text : goal.returns-clause-text
returns-clause-text g c =
    let text = c.args.text.now in
    let plain = c.plain_ahead-plain in
    let byte : ℕ = get_or text plain.result 0 in
    let within : plain.result < length text = omega (arith, plain.ensures.within, c.if-plain-text.false) in
    emits_as (sym (one_behind text plain.result byte within refl plain.ensures.plain)) (emits_then c.emit.ensures c.emit_byte.ensures)
