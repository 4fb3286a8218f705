use Rattle.std.proofs.Common.{◌∷◌, ◌++◌, ap, sym, ◌∙◌, append-nil, map}
use Rattle.std.specs.Prelude.{codes, decimal}
use Rattle.rbc_words.specs.PriceText.{spaced}
use Rattle.rbc_words.proofs.SpacedLemmas.{line_of-row, line_of-short}
use Rattle.rbc_streams.proofs.EmittingLemmas.{emits_then, emits_as}
use Rattle.rbc_words.proofs.price_table.emit_row.Goals as goal

pub returns-then-row-gt-SHORT : goal.returns-then-row-gt-SHORT
returns-then-row-gt-SHORT g c =
    let head = c.bytes.ensures ∙ c.gather_head.ensures ∙ ap (λ l. codes "prices " ++ (decimal c.args.number ++ l)) c.new-text.ensures ∙ ap (λ l. codes "prices " ++ l) (append-nil (decimal c.args.number)) in
    emits_as (sym (line_of-row c.args.number c.args.row.now _ head))
    (emits_then c.emit.ensures (emits_then c.emit_prices.ensures c.emit-then-row-gt-SHORT.ensures))

pub returns : goal.returns
returns g c =
    let prices = spaced (map decimal c.args.row.now) in
    let text = c.bytes-2.ensures ∙ c.gather_head-2.ensures
    ∙ ap (λ l. codes "prices " ++ (decimal c.args.number ++ l)) (c.gather_prices.ensures.text
    ∙ ap (λ l. prices ++ l) (c.byte.ensures.text ∙ ap (λ l. 10 ∷ l) c.new-text.ensures))
    ∙ sym (line_of-short c.args.number c.args.row.now) in
    emits_as text c.emit-2.ensures
