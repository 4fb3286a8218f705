use Rattle.rbc_streams.proofs.LineFeedLemmas.{is_stepped_over}
use Rattle.rbc_streams.proofs.line_reader.LineReader.step.Goals as goal

pub returns-clause-line : goal.returns-clause-line
returns-clause-line c there =
    let did = c.first_line.ensures in
    let reading = c.args.self.now in
    is_stepped_over c.first_line.result reading c.first_line.new.self did.some did.not_the_end did.none did.longest there
