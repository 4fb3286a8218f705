use Rattle.std.proofs.Common.{decimal}
use Rattle.rbc_decode.proofs.OutBufferLemmas.{behind}
use Rattle.rbc_decode.proofs.json_line.gather_named.Goals as goal

pub returns : goal.returns
returns c = behind c.args.buffer.now c.args.name.now (decimal c.args.number) c.text.ensures.text c.number.ensures.text
