use Rattle.std.proofs.Common.{◌++◌, ◌∷◌, [], ap, sym, map, ◌∙◌}
use Rattle.rbc_streams.proofs.EmittingLemmas.{emits_then, emits_as}
use Rattle.rbc_words.specs.LineWords.{word_text}
use Rattle.rbc_words.specs.PriceText.{spaced}
use Rattle.rbc_words.proofs.SpacedLemmas.{line_of-parts}
use Rattle.rbc_words.proofs.line_words.emit_joined.Goals as goal

pub returns-then-first-gt-SHORT_FIRST : goal.returns-then-first-gt-SHORT_FIRST
returns-then-first-gt-SHORT_FIRST g c =
    let parts = line_of-parts c.args.first.now (map word_text c.args.words.now) (map word_text c.args.more.now) in
    emits_as (sym parts) (emits_then c.emit.ensures (emits_then c.emit_words.ensures
    (emits_then c.emit_words-then-first-gt-SHORT_FIRST.ensures c.emit-then-first-gt-SHORT_FIRST.ensures)))

pub returns : goal.returns
returns g c =
    let first = c.args.first.now in
    let words = spaced (map word_text c.args.words.now) in
    let more = spaced (map word_text c.args.more.now) in
    let text = c.bytes.ensures ∙ c.text.ensures.text ∙ ap (λ l. first ++ l) (c.gather_words-2.ensures.text
    ∙ ap (λ l. words ++ l) (c.gather_words.ensures.text
    ∙ ap (λ l. more ++ l) (c.byte.ensures.text ∙ ap (λ l. 10 ∷ l) c.new-text.ensures))) in
    let parts = line_of-parts first (map word_text c.args.words.now) (map word_text c.args.more.now) in
    emits_as (text ∙ sym parts) c.emit-2.ensures
