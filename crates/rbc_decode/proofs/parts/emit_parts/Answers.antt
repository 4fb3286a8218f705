use Rattle.std.proofs.Common.{◌||◌, ◌++◌, false, ap, sym, ◌∙◌, append-nil}
use Rattle.rbc_streams.proofs.EmittingLemmas.{emits_then, emits_as}
use Rattle.rbc_decode.specs.Parts.{parts_text}
use Rattle.rbc_decode.proofs.PartsLemmas.{gathered_next, parts_text-end}
use Rattle.rbc_decode.proofs.parts.emit_parts.Goals as goal

pub loop-item-init : goal.loop-item-init
loop-item-init g c =
    let all = parts_text g.P.TextPart.told g.P.TextPart.text false c.args.items.now in
    λ end rest. emits_as (ap (λ s. s ++ all) c.new-buffer.ensures) rest

pub loop-item-preserved : goal.loop-item-preserved
loop-item-preserved g c =
    let made = c.make_room.ensures.handed in
    let loop = c.loop-item in
    let later = c.either-later.ensures ∙ ap (λ b. loop.later || b) c.is_told.ensures in
    let whole = gathered_next g.P.TextPart.told g.P.TextPart.text loop.later c.either-later.result c.args.items.now loop.item-index _
    loop.buffer made.0 c.make_room.new.buffer c.gather.new.buffer c.loop-item-test.true made.2 c.gather.ensures later in
    λ end rest. loop.invariant end (emits_as (sym whole) (emits_then made.1 rest))

pub returns : goal.returns
returns g c =
    let loop = c.loop-item in
    let none_left = parts_text-end g.P.TextPart.told g.P.TextPart.text loop.later c.args.items.now loop.item-index c.loop-item-test.false in
    loop.invariant _ (emits_as (c.bytes.ensures ∙ sym (append-nil loop.buffer) ∙ ap (λ l. loop.buffer ++ l) (sym none_left)) c.emit.ensures)
