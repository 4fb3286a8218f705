use Rattle.std.proofs.Common.{rules}
use Rattle.rbc_words.proofs.ReportWordLemmas.{give_back_in-no_last}
use Rattle.rbc_words.proofs.session_request.give_back_in.Goals as goal

pub returns-in_err-end : goal.returns-in_err-end
returns-in_err-end c = search (rules, give_back_in-no_last)
