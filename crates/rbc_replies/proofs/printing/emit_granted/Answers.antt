use Rattle.std.proofs.Common.{arith, sym}
use Rattle.rbc_streams.proofs.EmittingLemmas.{emits_then, emits_as}
use Rattle.rbc_replies.proofs.GrantTextLemmas.{grant_text-is, loss_of}
use Rattle.rbc_replies.proofs.printing.emit_granted.Goals as goal

pub returns : goal.returns
returns g c =
    let whole = grant_text-is c.args.track.now c.args.granted.now _ _ _
    c.args.granted.now.told c.speeds-speeds.ensures.steps c.speeds-speeds.ensures.end c.grades-grades.ensures.steps c.grades-grades.ensures.end in
    emits_as (sym whole)
    (emits_then c.emit_grant_line.ensures (emits_then c.emit_hex_between.ensures
    (emits_then c.emit_certificate.ensures (emits_then c.emit_certificate-2.ensures c.emit.ensures))))

pub emit_certificate-requires-after_bounds : goal.emit_certificate-requires-after_bounds
emit_certificate-requires-after_bounds g c κs within =
    let a = c.args.granted.now.authority.now in
    (omega arith, loss_of _ _ _ _ a.speeds a.end c.args.granted.now.speeds_lost c.speeds-speeds.ensures.steps c.speeds-speeds.ensures.end)

pub emit_certificate-requires-2-after_bounds : goal.emit_certificate-requires-2-after_bounds
emit_certificate-requires-2-after_bounds g c κs within =
    let a = c.args.granted.now.authority.now in
    (omega arith, loss_of _ _ _ _ a.grades a.end c.args.granted.now.grades_lost c.grades-grades.ensures.steps c.grades-grades.ensures.end)
