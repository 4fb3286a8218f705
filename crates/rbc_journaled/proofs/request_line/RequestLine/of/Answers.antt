use Rattle.rbc_words.specs.SessionLines.{request_view}
use Rattle.rbc_journaled.proofs.LineLemmas.{text_is_told, text_is_short, text_says}
use Rattle.rbc_journaled.proofs.request_line.RequestLine.of.Goals as goal

pub invariant_of-result : goal.invariant_of-result
invariant_of-result c =
    let said = request_view c.args.request.now in
    let text = c.in_ok-bytes.bytes.items in (
      text_is_told said text c.requires c.in_ok-bytes.ensures,
      text_is_short said text c.requires c.in_ok-bytes.ensures,
      c.in_ok-room.ensures.len,
      c.in_ok-room.ensures.capacity,
    )

pub returns : goal.returns
returns c = text_says (request_view c.args.request.now) c.in_ok-bytes.bytes.items c.requires c.in_ok-bytes.ensures
