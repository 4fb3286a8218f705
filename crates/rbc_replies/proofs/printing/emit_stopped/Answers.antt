use Rattle.std.proofs.Common.{[], ◌∷◌, ◌++◌, ap, map, codes}
use Rattle.rbc_model.specs.Words.{line_of}
use Rattle.rbc_words.specs.LineWords.{word_text}
use Rattle.rbc_streams.proofs.EmittingLemmas.{emits_as}
use Rattle.rbc_replies.proofs.printing.emit_stopped.Goals as goal

pub returns-in-NotLocked : goal.returns-in-NotLocked
returns-in-NotLocked g c =
    let words = map word_text c.args.words.now in
    let text = ap (λ w. line_of (c.args.first.now ∷ (words ++ (codes "NotLocked" ∷ w ∷ [])))) c.section_word.ensures in
    rw c.in-NotLocked.is (emits_as text c.emit_joined-in-NotLocked.ensures)
