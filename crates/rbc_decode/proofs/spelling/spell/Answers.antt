use Rattle.std.proofs.Common.{◌*◌, length, lit≤, sym, ap, ◌∙◌}
use Rattle.std.proofs.lemmas.Result.{err_from_is_err_and}
use Rattle.rbc_model.specs.Words.{words_of}
use Rattle.rbc_decode.specs.Spelling.{in_front, spelled}
use Rattle.rbc_decode.proofs.SpellingLemmas.{in_front_none, word_spelled, word_wrong}
use Rattle.rbc_decode.proofs.spelling.spell.Goals as goal

pub loop-word-init : goal.loop-word-init
loop-word-init c =
    let all = spelled 0 (words_of c.args.text.now) in
    record {
      whole = sym (ap (λ octets. in_front octets all) c.requires ∙ in_front_none all);
      twice = sym (ap (λ octets. 2 * length octets) c.requires);
      few = lit≤ tt;
    }

pub returns-in_err-count-clause-wrong : goal.returns-in_err-count-clause-wrong
returns-in_err-count-clause-wrong c =
    let p = err_from_is_err_and c.from_residual.result c.from_residual.ensures.1 in
    let loop = c.loop-word in
    rw (p.1, p.2)
    (word_wrong (spelled 0 (words_of c.args.text.now)) loop.octets loop.count c.in-Some.word.now (words_of c.in-Some.more.now) (words_of loop.rest.now)
    c.without_prefix.result.now _ loop.invariant.whole c.in-Some.ensures.words c.without_prefix.ensures c.in_err-count.ensures.wrong)

pub loop-word-preserved : goal.loop-word-preserved
loop-word-preserved c =
    let loop = c.loop-word in
    let word = c.in_ok-count.ensures in
    record {
      whole = word_spelled (spelled 0 (words_of c.args.text.now)) loop.octets c.spell_word.new.self loop.count _ c.in-Some.word.now (words_of c.in-Some.more.now) (words_of loop.rest.now)
          c.without_prefix.result.now loop.invariant.whole c.in-Some.ensures.words c.without_prefix.ensures word.spelled word.bytes word.count.0;
      twice = word.count.1;
      few = word.count.2;
    }
