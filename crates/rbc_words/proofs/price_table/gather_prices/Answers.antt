use Rattle.std.proofs.Common.{◌≡◌, ◌+◌, ◌-◌, ◌∷◌, ◌++◌, length, arith, ap, sym, ◌∙◌, append_assoc, drop, get_or, map}
use Rattle.std.specs.Prelude.{decimal}
use Rattle.rbc_words.specs.PriceText.{spaced}
use Rattle.rbc_words.proofs.SpacedLemmas.{prices_left-next, spaced-end}
use Rattle.rbc_words.proofs.price_table.gather_prices.Goals as goal

pub loop-i-init : goal.loop-i-init
loop-i-init c =
    let prices = c.args.prices.now in
    (ap (λ l. l ++ c.args.text.now) (sym (spaced-end decimal prices (length prices) (omega arith))), omega arith)

pub loop-i-preserved : goal.loop-i-preserved
loop-i-preserved c =
    let prices = c.args.prices.now in
    let loop = c.loop-i in
    let k = loop.i - 1 in
    let price = decimal (get_or prices k 0) in
    let here : loop.i ≡ k + 1 = omega arith in
    let left = loop.invariant.0 ∙ ap (λ j. spaced (map decimal (drop j prices)) ++ c.args.text.now) here in
    let rest = spaced (map decimal (drop (k + 1) prices)) in
    let text = c.byte.ensures.text ∙ ap (λ l. 32 ∷ l) (c.number.ensures.text ∙ ap (λ l. price ++ l) left ∙ sym (append_assoc price rest c.args.text.now)) in
    (text ∙ ap (λ l. l ++ c.args.text.now) (sym (prices_left-next prices k (omega arith))), omega (arith, c.byte.ensures.length, c.number.ensures.length, loop.invariant.1))
