use Rattle.std.proofs.Common.{◌∷◌, ap, sym}
use Rattle.rbc_streams.proofs.EmittingLemmas.{emits_then, emits_as}
use Rattle.rbc_words.specs.LineWords.{word_text}
use Rattle.rbc_words.proofs.line_words.emit_spaced.Goals as goal

pub returns-in-Text : goal.returns-in-Text
returns-in-Text g c = emits_as (ap (λ w. 32 ∷ word_text w) (sym c.in-Text.is)) (emits_then c.emit.ensures c.emit-in-Text.ensures)
