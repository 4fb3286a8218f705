use Rattle.std.proofs.Common.{ℕ, ◌<◌, ◌==◌, length, sym, ap, ◌∙◌, arith}
use Rattle.std.proofs.lemmas.Grind.{common_steps, get_or_default_zero}
use Rattle.rbc_model.specs.Words.{is_blank}
use Rattle.rbc_words.proofs.FirstWordLemmas.{blank_by_byte, no_word}
use Rattle.rbc_words.proofs.words.is_blank.Goals as goal

pub returns-in-Some : goal.returns-in-Some
returns-in-Some c =
    let text = c.args.text.now in
    let start = c.leading_spaces.result in
    let h = c.in-Some.ensures.lookup in
    let inside : start < length text = h.3.0 in
    ap (λ (byte : ℕ). byte == 35) (h.1 ∙ get_or_default_zero text start c.in-Some.first.now inside)
    ∙ sym (blank_by_byte text start c.leading_spaces.ensures.value inside)

pub returns-in-None : goal.returns-in-None
returns-in-None c =
    let none = no_word c.args.text.now c.leading_spaces.result c.leading_spaces.ensures.value (grind (arith, common_steps, c.in-None.ensures.lookup)) in
    sym (ap is_blank none)
