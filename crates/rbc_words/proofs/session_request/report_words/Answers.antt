use Rattle.std.proofs.Common.{rules}
use Rattle.rbc_words.proofs.ReportWordLemmas.{report_in-no_last}
use Rattle.rbc_words.proofs.session_request.report_words.Goals as goal

pub returns-in_err-time : goal.returns-in_err-time
returns-in_err-time c = search (rules, report_in-no_last)
