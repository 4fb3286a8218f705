use Rattle.rbc_model.specs.Words.{words_of}
use Rattle.rbc_words.proofs.RangeLemmas.{read_in_range}
use Rattle.rbc_words.proofs.steps_request.parse_steps.Goals as goal

pub returns-in-Some-clause-in_range : goal.returns-in-Some-clause-in_range
returns-in-Some-clause-in_range c =
    read_in_range c.words_line.result (words_of c.in-Some.text.now) c.words_line.ensures.grammar
