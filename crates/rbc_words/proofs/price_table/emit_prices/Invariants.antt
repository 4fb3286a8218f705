use Rattle.std.proofs.Common.{length, map}
use Rattle.std.specs.Prelude.{decimal}
use Rattle.rbc_streams.specs.Emitting.{Emits}
use Rattle.rbc_words.specs.PriceText.{spaced}
use Rattle.rbc_words.proofs.price_table.emit_prices.Given as goal

-- to write the prices that are left is to write them all
abbrev pub invariant-loop-rest : goal.invariant-loop-rest
invariant-loop-rest g l =
    let emits = Emits g.W.Sink.written g.W.Sink.failed in
    (end : _) → emits l.writer end (spaced (map decimal l.rest)) → emits l.fn.writer end (spaced (map decimal l.prices))

abbrev pub decreases-loop-rest : goal.decreases-loop-rest
decreases-loop-rest g l = length l.rest
