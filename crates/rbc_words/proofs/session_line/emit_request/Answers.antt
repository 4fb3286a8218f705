use Rattle.rbc_words.proofs.session_line.emit_request.Goals as goal

pub returns-in-Report : goal.returns-in-Report
returns-in-Report g c = rw c.in-Report.is c.emit_report.ensures
