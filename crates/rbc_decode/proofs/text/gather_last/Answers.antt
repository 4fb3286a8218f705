use Rattle.std.proofs.Common.{◌∷◌, [], decimal}
use Rattle.rbc_decode.proofs.OutBufferLemmas.{behind_3}
use Rattle.rbc_decode.proofs.text.gather_last.Goals as goal

pub returns-clause-text : goal.returns-clause-text
returns-clause-text c =
    behind_3 c.args.buffer.now c.args.name.now (decimal c.args.number) (10 ∷ []) c.text.ensures.text c.number.ensures.text c.byte.ensures.text
