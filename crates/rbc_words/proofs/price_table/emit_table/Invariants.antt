use Rattle.std.proofs.Common.{◌≡◌, ◌+◌, drop}
use Rattle.rbc_model.specs.StepsReply.{price_lines}
use Rattle.rbc_streams.specs.Emitting.{Emits}
use Rattle.rbc_words.specs.PriceText.{prices_of, prices_text}
use Rattle.rbc_words.proofs.price_table.emit_table.Given as goal

-- to write the rows that are left is to write them all
abbrev pub invariant-loop-row : goal.invariant-loop-row
invariant-loop-row g l =
    let emits = Emits g.W.Sink.written g.W.Sink.failed in
    record {
      number : l.number ≡ l.row-index;
      whole : (end : _) → emits l.writer end (price_lines (l.number + 1) (prices_of (drop l.row-index l.rows)))
          → emits l.fn.writer end (prices_text l.rows);
    }
