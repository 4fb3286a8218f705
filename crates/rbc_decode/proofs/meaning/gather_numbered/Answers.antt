use Rattle.std.proofs.Common.{decimal}
use Rattle.rbc_decode.proofs.OutBufferLemmas.{behind_3}
use Rattle.rbc_decode.proofs.meaning.gather_numbered.Goals as goal

pub returns-clause-text : goal.returns-clause-text
returns-clause-text c =
    behind_3 c.args.buffer.now c.args.before.now (decimal c.args.number) c.args.after.now c.text.ensures.text c.number.ensures.text c.text-2.ensures.text
