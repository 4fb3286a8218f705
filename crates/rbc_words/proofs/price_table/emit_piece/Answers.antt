use Rattle.std.proofs.Common.{◌++◌, ap, ◌∙◌, append-nil, map}
use Rattle.std.specs.Prelude.{decimal}
use Rattle.rbc_words.specs.PriceText.{spaced}
use Rattle.rbc_streams.proofs.EmittingLemmas.{emits_as}
use Rattle.rbc_words.proofs.price_table.emit_piece.Goals as goal

pub returns : goal.returns
returns g c =
    let prices = spaced (map decimal c.args.piece.now) in
    emits_as (c.bytes.ensures ∙ c.gather_prices.ensures.text ∙ ap (λ l. prices ++ l) c.new-text.ensures ∙ append-nil prices) c.emit.ensures
