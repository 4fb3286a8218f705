use Rattle.std.proofs.Common.{◌≡◌, ◌≤◌, ◌+◌, ◌*◌, ◌++◌, drop, length, map}
use Rattle.std.specs.Prelude.{decimal}
use Rattle.rbc_words.specs.PriceText.{spaced}
use Rattle.rbc_words.proofs.price_table.gather_prices.Given as goal

abbrev pub invariant-loop-i : goal.invariant-loop-i
invariant-loop-i l = (l.text ≡ spaced (map decimal (drop l.i l.prices)) ++ l.fn.text) × (length l.text + 21 * l.i ≤ length l.fn.text + 21 * length l.prices)
