use Rattle.rbc_model.specs.Words.{words_of}
use Rattle.rbc_words.proofs.RequestLemmas.{behind_limit}
use Rattle.rbc_words.proofs.steps_request.request_in.Goals as goal

pub returns : goal.returns
returns g c =
    let word = c.in_ok-limit in
    let first = c.in_ok-first in
    let second = c.in_ok-second in
    let third = c.in_ok-_third in
    let limit = c.in_ok-limit-2 in
    let same =
    behind_limit g.V.Spelled.kind (words_of c.args.words.now) word.limit.now first.first.now second.second.now _
    (words_of word.rest.now) (words_of first.rest.now) (words_of second.rest.now) _ limit.limit
    word.ensures first.ensures second.ensures third.ensures limit.ensures.value in
    rw same c.runs_in.ensures
