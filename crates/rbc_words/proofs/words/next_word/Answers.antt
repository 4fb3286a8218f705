use Rattle.std.proofs.Common.{refl, arith}
use Rattle.std.proofs.lemmas.Grind.{common_steps}
use Rattle.rbc_words.proofs.FirstWordLemmas.{no_word, one_word}
use Rattle.rbc_words.proofs.words.next_word.Goals as goal

pub returns-then-is_empty-clause-words : goal.returns-then-is_empty-clause-words
returns-then-is_empty-clause-words c = no_word c.args.text.now c.leading_spaces.result c.leading_spaces.ensures.value (grind (arith, common_steps))

pub returns-clause-words : goal.returns-clause-words
returns-clause-words c =
    let first = one_word c.args.text.now _ c.leading_spaces.result c.leading_spaces.ensures.value refl (grind (arith, common_steps)) in
    rw (c.split_at.ensures.front, c.split_at.ensures.back, c.length_before.ensures.value) first
