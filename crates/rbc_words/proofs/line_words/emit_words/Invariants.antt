use Rattle.std.proofs.Common.{drop, map}
use Rattle.rbc_streams.specs.Emitting.{Emits}
use Rattle.rbc_words.specs.PriceText.{spaced}
use Rattle.rbc_words.specs.LineWords.{word_text}
use Rattle.rbc_words.proofs.line_words.emit_words.Given as goal

-- to write the words that are left is to write them all
abbrev pub invariant-loop-word : goal.invariant-loop-word
invariant-loop-word g l =
    let emits = Emits g.W.Sink.written g.W.Sink.failed in
    (end : _) → emits l.writer end (spaced (map word_text (drop l.word-index l.words))) → emits l.fn.writer end (spaced (map word_text l.words))
