use Rattle.std.proofs.Common.{sym}
use Rattle.rbc_streams.proofs.EmittingLemmas.{emits_then, emits_as, emits_nothing}
use Rattle.rbc_words.specs.LineWords.{word_text}
use Rattle.rbc_words.proofs.SpacedLemmas.{spaced-next, spaced-end}
use Rattle.rbc_words.proofs.line_words.emit_words.Goals as goal

pub loop-word-preserved : goal.loop-word-preserved
loop-word-preserved g c =
    let loop = c.loop-word in
    let next = spaced-next word_text c.args.words.now loop.word-index c.word-item.result c.loop-word-test.true c.word-item.is in
    λ end rest. loop.invariant end (emits_as (sym next) (emits_then c.emit_spaced.ensures rest))

pub returns : goal.returns
returns g c =
    let loop = c.loop-word in
    let none_left = spaced-end word_text c.args.words.now loop.word-index c.loop-word-test.false in
    loop.invariant _ (emits_as (sym none_left) (emits_nothing _))
