use Rattle.rbc_decode.proofs.DecodedLemmas.{decodes_all}
use Rattle.rbc_decode.proofs.decoding.decode.Goals as goal

pub returns-clause-answers : goal.returns-clause-answers
returns-clause-answers g c =
    let talk = c.in_ok-serve_lines.ensures.talk in
    decodes_all g.F.Form.printing _ _ _ _ c.serve_lines.new.handler.progress talk.0 c.in_ok-serve_lines.ensures.end talk.1 talk.2
